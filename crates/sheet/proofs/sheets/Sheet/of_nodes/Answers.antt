use Rattle.std.proofs.Common.{◌≡◌, List, [], take, replicate, pos, negsuc, sym, refl, ap, ◌∙◌, subst, arith, rules}
use lib.Signed.{le_z_yes}
use Rattle.std.proofs.lemmas.List.{get_or-replicate, take-replicate}
use Rattle.cost.specs.Meaning.{Between}
use Rattle.network.specs.Records.{no_node}
use Rattle.network.specs.declared.records.Node.{Node}
use Rattle.ledger.specs.declared.standing.Standing.TheVariants.{Open}
use Rattle.sheet.proofs.sheets.Sheet.of_nodes.Goals as goal

pub invariant_of-result : goal.invariant_of-result
invariant_of-result c =
    let none : c.default.result ≡ no_node = search rules in
    record {
      node_places = refl;
      arc_places = refl;
      few_nodes = c.requires;
      few_arcs = omega arith;
      tails = λ a h. absurd (omega arith);
      heads = λ a h. absurd (omega arith);
      supplies = λ v h. subst (λ (n : Node). Between (negsuc 99999) (pos 100000) n.supply) (sym (get_or-replicate 64 v c.default.result no_node (omega (arith, c.requires)) ∙ none)) (le_z_yes tt, le_z_yes tt);
      loops = λ a h e. absurd (omega arith);
    }

pub returns : goal.returns
returns c =
    let none : c.default.result ≡ no_node = search rules in
    ap (λ (n : Node). record { nodes = take c.args.count (replicate 64 n); arcs = []; standing = Open }) none
    ∙ ap (λ (nodes : List Node). record { nodes = nodes; arcs = []; standing = Open }) (take-replicate c.args.count 64 no_node c.requires)
