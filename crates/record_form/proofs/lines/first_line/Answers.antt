use Rattle.std.proofs.Common.{refl, ◌∙◌, w64, SFits, rules}
use Rattle.std.proofs.lemmas.Result.{err_from_is_err_and}
use Rattle.std.proofs.lemmas.Int.{to_z-of_z}
use Rattle.text.proofs.Calls.{call_made, call_refused, makes, refuses}
use Rattle.record_form.proofs.Sequences.{net_word, net_space, net_letter, net_nodes, net_arcs, net_end, net_made}
use Rattle.record_form.proofs.lines.first_line.Goals as goal

pub returns-in_err-word : goal.returns-in_err-word
returns-in_err-word c =
    let p = err_from_is_err_and c.from_residual.result c.from_residual.ensures.1 in
    rw (p.1, p.2) (record { step = refuses _ (net_word _ _ _ (call_refused refl c.in_err-word.ensures)) refl refl; nodes = tt; arcs = tt })

pub returns-in_err-space : goal.returns-in_err-space
returns-in_err-space c =
    let p = err_from_is_err_and c.from_residual-in_err-space.result c.from_residual-in_err-space.ensures.1 in
    let word = c.in_ok-word.ensures in
    rw (p.1, p.2) (record { step = refuses _ (net_space _ _ _ (call_made refl word) (call_refused word.keeps c.in_err-space.ensures)) refl refl; nodes = tt; arcs = tt })

pub returns-in_err-letter : goal.returns-in_err-letter
returns-in_err-letter c =
    let p = err_from_is_err_and c.from_residual-in_err-letter.result c.from_residual-in_err-letter.ensures.1 in
    let word = c.in_ok-word.ensures in
    let space = c.in_ok-space.ensures in
    rw (p.1, p.2) (record {
      step =
          refuses _
          (net_letter _ _ _ (call_made refl word) (call_made word.keeps space) (call_refused (space.keeps ∙ word.keeps) c.in_err-letter.ensures))
          refl refl;
      nodes = tt;
      arcs = tt;
    })

pub returns-in_err-nodes : goal.returns-in_err-nodes
returns-in_err-nodes c =
    let p = err_from_is_err_and c.from_residual-in_err-nodes.result c.from_residual-in_err-nodes.ensures.1 in
    let word = c.in_ok-word.ensures in
    let space = c.in_ok-space.ensures in
    let letter = c.in_ok-letter.ensures in
    let three = letter.keeps ∙ space.keeps ∙ word.keeps in
    rw (p.1, p.2) (record {
      step =
          refuses _
          (net_nodes _ _ _ (call_made refl word) (call_made word.keeps space) (call_made (space.keeps ∙ word.keeps) letter)
          (call_refused three c.in_err-nodes.ensures.step))
          refl refl;
      nodes = tt;
      arcs = tt;
    })

pub returns-in_err-arcs : goal.returns-in_err-arcs
returns-in_err-arcs c =
    let p = err_from_is_err_and c.from_residual-in_err-arcs.result c.from_residual-in_err-arcs.ensures.1 in
    let word = c.in_ok-word.ensures in
    let space = c.in_ok-space.ensures in
    let letter = c.in_ok-letter.ensures in
    let nodes = c.in_ok-nodes.ensures.step in
    let three = letter.keeps ∙ space.keeps ∙ word.keeps in
    rw (p.1, p.2) (record {
      step =
          refuses _
          (net_arcs _ _ _ (call_made refl word) (call_made word.keeps space) (call_made (space.keeps ∙ word.keeps) letter) (call_made three nodes)
          (call_refused (nodes.keeps ∙ three) c.in_err-arcs.ensures.step))
          refl refl;
      nodes = tt;
      arcs = tt;
    })

pub returns-in_err-line_end : goal.returns-in_err-line_end
returns-in_err-line_end c =
    let p = err_from_is_err_and c.from_residual-in_err-line_end.result c.from_residual-in_err-line_end.ensures.1 in
    let word = c.in_ok-word.ensures in
    let space = c.in_ok-space.ensures in
    let letter = c.in_ok-letter.ensures in
    let nodes = c.in_ok-nodes.ensures.step in
    let arcs = c.in_ok-arcs.ensures.step in
    let three = letter.keeps ∙ space.keeps ∙ word.keeps in
    rw (p.1, p.2) (record {
      step =
          refuses _
          (net_end _ _ _ (call_made refl word) (call_made word.keeps space) (call_made (space.keeps ∙ word.keeps) letter) (call_made three nodes)
          (call_made (nodes.keeps ∙ three) arcs) (call_refused (arcs.keeps ∙ nodes.keeps ∙ three) c.in_err-line_end.ensures))
          refl refl;
      nodes = tt;
      arcs = tt;
    })

pub returns : goal.returns
returns c =
    let word = c.in_ok-word.ensures in
    let space = c.in_ok-space.ensures in
    let letter = c.in_ok-letter.ensures in
    let nodes = c.in_ok-nodes.ensures in
    let arcs = c.in_ok-arcs.ensures in
    let three = letter.keeps ∙ space.keeps ∙ word.keeps in
    let some : SFits w64 c.in_ok-nodes.nodes = search rules in
    let more : SFits w64 c.in_ok-arcs.arcs = search rules in
    simp to_z-of_z (record {
      step =
          makes _
          (net_made _ _ _ (call_made refl word) (call_made word.keeps space) (call_made (space.keeps ∙ word.keeps) letter) (call_made three nodes.step)
          (call_made (nodes.step.keeps ∙ three) arcs.step) (call_made (arcs.step.keeps ∙ nodes.step.keeps ∙ three) c.in_ok-line_end.ensures))
          refl;
      nodes = nodes.within;
      arcs = arcs.within;
    })
