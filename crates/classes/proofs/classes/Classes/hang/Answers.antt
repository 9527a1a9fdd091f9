use Rattle.std.proofs.Common.{◌≡◌, ◌+◌, ◌<◌, ◌∷◌, length, sym, ◌∙◌, subst, arith}
use Rattle.std.proofs.lemmas.List.{length-set}
use Rattle.tables.specs.Stacks.{listed}
use Rattle.tables.proofs.Views.{turned_push}
use Rattle.classes.specs.Links.{merges_of, merge_of, link_at, rank_at, put, Linked}
use Rattle.classes.specs.Classes.{merges}
use Rattle.classes.proofs.ClassTables.{hung, hung_links, hung_ranks}
use Rattle.classes.proofs.classes.Classes.hang.Goals as goal

pub invariant_of-self : goal.invariant_of-self
invariant_of-self c =
    let s = c.args.self.now in
    let nodes = hung s.nodes c.args.c c.args.d (c.args.d + 1) c.args.rank in
    let below : c.args.c < length s.nodes = omega (arith, s.whole, c.requires.below) in
    let above : c.args.d < length s.nodes = omega (arith, s.whole, c.requires.above) in
    let links : link_at nodes ≡ put (link_at s.nodes) c.args.c (c.args.d + 1) = λ i x. hung_links s.nodes c.args.c c.args.d (c.args.d + 1) c.args.rank below above x i in
    let ranks : rank_at nodes ≡ put (rank_at s.nodes) c.args.d c.args.rank = λ i x. hung_ranks s.nodes c.args.c c.args.d (c.args.d + 1) c.args.rank below above x i in
    let pushed : merges_of c.push.new.self ≡ merge_of c.args.merge ∷ merges s = turned_push merge_of (listed s.merged) _ c.args.merge c.push.ensures in
    record {
      whole = length-set _ _ _ ∙ length-set _ _ _ ∙ s.whole;
      linked = ∣ subst (λ ms. Linked ms (link_at nodes) (rank_at nodes)) (sym pushed)
          (subst (λ f. Linked (merge_of c.args.merge ∷ merges s) f (rank_at nodes)) (sym links) (subst (λ f. Linked (merge_of c.args.merge ∷ merges s) (put (link_at s.nodes) c.args.c (c.args.d + 1)) f) (sym ranks) c.requires.linked)) ∣₁;
    }
