mod SlipLaws
mod LevelLaws
mod BackLaws
