use Rattle.std.proofs.Common.{map, reverse, replicate, sym, refl, ap, subst}
use Rattle.classes.specs.Links.{root, merge_of, link_at, rank_at, Linked}
use Rattle.classes.specs.declared.classes.Node.{Node}
use Rattle.classes.proofs.LinkLaws.{linked_none}
use Rattle.classes.proofs.ClassTables.{roots}
use Rattle.classes.proofs.classes.Classes.new.Goals as goal

pub invariant_of-result : goal.invariant_of-result
invariant_of-result c =
    let nodes = replicate 4096 root in
    let bare = linked_none (link_at nodes) (rank_at nodes) (λ x. ap (λ (n : Node). n.link) (roots 4096 x)) (λ x. ap (λ (n : Node). n.rank) (roots 4096 x)) in
    record {
      whole = refl;
      linked = ∣ subst (λ ms. Linked ms (link_at nodes) (rank_at nodes)) (sym (ap (λ l. reverse (map merge_of l)) c.new.ensures.empty)) bare ∣₁;
    }
