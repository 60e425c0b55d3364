-- What is known of a chain is known after one call more.
use Rattle.std.proofs.Common.{◌≡◌, ℕ, ◌⊎◌, List, map, length, ℤ, IfSome, Some, None, Ok, Err, Option, Result, sym, refl, ap, ◌∙◌, subst, inl, inr, arith}
use Rattle.std.proofs.lemmas.List.{length-map}
use Rattle.cost.specs.Meaning.{Meaning}
use Rattle.cost.specs.Places.{kept_or}
use Rattle.network.specs.Network.{Net, Ends}
use Rattle.network.proofs.Cuts.{over_full_bars}
use Rattle.ledger.specs.Books.{Book, network_of, opened}
use Rattle.ledger.specs.Calls.{supply_refusal, supplied, swap_refusal, swapped}
use Rattle.ledger.specs.Settling.{settle_refusal, SameNetwork, SettlesUnless, Settles, Answers, loads_in, marks_in}
use Rattle.ledger.specs.declared.faults.SheetFault.{SheetFault}
use Rattle.ledger.specs.declared.settling.Amounts.{Amounts}
use Rattle.ledger.specs.declared.standing.Standing.TheVariants as standing
use Rattle.ledger.proofs.Bare.{node_count}
use Rattle.ledger.proofs.Outcomes.{answers_unless}
use Rattle.chain.specs.Chains.{Desk, network, unsettled, set_by, Accepted, kind_of, Stands}
use Rattle.chain.specs.Steps.{after_edit, after_settling, Step}
use Rattle.chain.specs.declared.calls.Call.{Call}
use Rattle.chain.specs.declared.calls.Call.TheVariants as call
use Rattle.chain.specs.declared.calls.Kind.{Kind}
use Rattle.chain.specs.declared.calls.Kind.TheVariants as kind
use Rattle.chain.specs.declared.calls.Progress.{Progress}
use Rattle.chain.proofs.Alike.{network_alike, supply_refusal_alike, swap_refusal_alike, settle_refusal_alike, supplied_alike, opened_alike}

-- ---- standings that differ

open_settled : standing.Open ≡ standing.Settled → ⊥
open_settled e = let z : ◌≡◌ {A = ℕ} 0 1 = cc in omega arith

open_barred : standing.Open ≡ standing.Barred → ⊥
open_barred e = let z : ◌≡◌ {A = ℕ} 0 1 = cc in omega arith

settled_barred : standing.Settled ≡ standing.Barred → ⊥
settled_barred e = let z : ◌≡◌ {A = ℕ} 0 1 = cc in omega arith

-- a book that stands open
pub stands_open : (net : Net) (b : Book) (last : Option Kind) → b.standing ≡ standing.Open → (last ≡ Some kind.Settle → ⊥) → Stands net b last
stands_open net b last is other = record {
  exactly = (λ e. absurd (open_settled (sym is ∙ e)), λ e. absurd (other e));
  settled = λ e. absurd (open_settled (sym is ∙ e));
  barred = λ e. absurd (open_barred (sym is ∙ e));
}

supply_is_no_settle : ◌≡◌ {A = Option Kind} (Some kind.Supply) (Some kind.Settle) → ⊥
supply_is_no_settle e = let z : ◌≡◌ {A = ℕ} 0 1 = cc in omega arith

swap_is_no_settle : ◌≡◌ {A = Option Kind} (Some kind.Swap) (Some kind.Settle) → ⊥
swap_is_no_settle e = let z : ◌≡◌ {A = ℕ} 0 1 = cc in omega arith

pub nothing_is_no_settle : ◌≡◌ {A = Option Kind} None (Some kind.Settle) → ⊥
nothing_is_no_settle e = let z : ◌≡◌ {A = ℕ} 0 1 = cc in omega arith

some_is_not_none : {X : Type 0} {x : X} → ◌≡◌ {A = Option X} (Some x) None → ⊥
some_is_not_none e = let z : ◌≡◌ {A = ℕ} 0 1 = cc in omega arith

-- ---- one call more

-- what is known of three things is known of those that equal them
pub put_in : {X Y Z : Type 0} (P : X → Y → Z → Type 0) (x x' : X) (y y' : Y) (z z' : Z) → x' ≡ x → y' ≡ y → z' ≡ z → P x y z → P x' y' z'
put_in {X} {Y} {Z} P x x' y y' z z' e f g p =
    subst (λ (u : X). P u y' z') (sym e) (subst (λ (u : Y). P x u z') (sym f) (subst (λ (u : Z). P x y u) (sym g) p))

module _ {C : Type 0} (meaning : C → Meaning) (start : Book) where
  -- where a chain is: at a desk with the supplies and costs set last, with a book and costs, and what is known so far
  pub record At (d : Desk C) (b : Book) (costs : List C) (p : Progress) : Type 0 where
    pub same : SameNetwork d.book b
    pub listed : costs ≡ d.costs
    pub stands : start.standing ≡ standing.Open → Stands (network meaning d) b p.last
    pub answers : IfSome p.answer (Answers (unsettled d) (network meaning d))

  -- how a call went: accepted, it is the last one; refused, the last one is as before
  abbrev pub Went : Call C → Desk C → Progress → Progress → Type 0
  Went c d p q = (Accepted meaning c d × (q.last ≡ Some (kind_of c))) ⊎ ((Accepted meaning c d → ⊥) × (q.last ≡ p.last))

  module _ (d : Desk C) (b : Book) (costs : List C) (p : Progress) (at : At d b costs p) where
    -- a refused call leaves all as it is
    stays : At (record { book = d.book; costs = d.costs }) b costs p
    stays = record { same = at.same; listed = at.listed; stands = at.stands; answers = at.answers }

    supply_step : (node amount : ℤ)
        → At (set_by (call.Supply node amount) d) (kept_or b (supply_refusal b node amount) (supplied b node amount)) costs (kept_or p (supply_refusal b node amount) (after_edit kind.Supply))
        × Went (call.Supply node amount) d p (kept_or p (supply_refusal b node amount) (after_edit kind.Supply))
    supply_step node amount =
        subst (λ (ρ : Option SheetFault). At (set_by (call.Supply node amount) d) (kept_or b ρ (supplied b node amount)) costs (kept_or p ρ (after_edit kind.Supply)) × Went (call.Supply node amount) d p (kept_or p ρ (after_edit kind.Supply)))
        (sym (supply_refusal_alike d.book b at.same node amount)) (go (supply_refusal d.book node amount) refl)
      where
        go : (ρ : Option SheetFault) → supply_refusal d.book node amount ≡ ρ
            → At (record { book = kept_or d.book ρ (supplied d.book node amount); costs = d.costs }) (kept_or b ρ (supplied b node amount)) costs (kept_or p ρ (after_edit kind.Supply))
            × Went (call.Supply node amount) d p (kept_or p ρ (after_edit kind.Supply))
        go None e = (
          record {
            same = ap (λ (x : Book). opened x.nodes x.arcs) (supplied_alike d.book b at.same node amount);
            listed = at.listed;
            stands = λ _. stands_open _ (supplied b node amount) (Some kind.Supply) refl supply_is_no_settle;
            answers = tt;
          },
          inl (e, refl),
        )
        go (Some f) e = (stays, inr (λ accepted. some_is_not_none (sym e ∙ accepted), refl))

    swap_step : (arc : ℤ) (cost : C)
        → At (set_by (call.Swap arc cost) d) (kept_or b (swap_refusal b (length costs) arc) (opened b.nodes b.arcs)) (kept_or costs (swap_refusal b (length costs) arc) (swapped costs arc cost)) (kept_or p (swap_refusal b (length costs) arc) (after_edit kind.Swap))
        × Went (call.Swap arc cost) d p (kept_or p (swap_refusal b (length costs) arc) (after_edit kind.Swap))
    swap_step arc cost =
        subst (λ (ρ : Option SheetFault). At (set_by (call.Swap arc cost) d) (kept_or b ρ (opened b.nodes b.arcs)) (kept_or costs ρ (swapped costs arc cost)) (kept_or p ρ (after_edit kind.Swap)) × Went (call.Swap arc cost) d p (kept_or p ρ (after_edit kind.Swap)))
        (sym (swap_refusal_alike d.book b at.same (length costs) arc ∙ ap (λ (cs : List C). swap_refusal d.book (length cs) arc) at.listed)) (go (swap_refusal d.book (length d.costs) arc) refl)
      where
        go : (ρ : Option SheetFault) → swap_refusal d.book (length d.costs) arc ≡ ρ
            → At (record { book = d.book; costs = kept_or d.costs ρ (swapped d.costs arc cost) }) (kept_or b ρ (opened b.nodes b.arcs)) (kept_or costs ρ (swapped costs arc cost)) (kept_or p ρ (after_edit kind.Swap))
            × Went (call.Swap arc cost) d p (kept_or p ρ (after_edit kind.Swap))
        go None e = (
          record {
            same = opened_alike d.book b at.same;
            listed = ap (λ (cs : List C). swapped cs arc cost) at.listed;
            stands = λ _. stands_open _ (opened b.nodes b.arcs) (Some kind.Swap) refl swap_is_no_settle;
            answers = tt;
          },
          inl (e, refl),
        )
        go (Some f) e = (stays, inr (λ accepted. some_is_not_none (sym e ∙ accepted), refl))

    module _ (ends : Ends (network meaning d)) (b' : Book) (r : Result Amounts SheetFault) (settles : Settles b (map meaning costs) b' r) where
      refusal_is : settle_refusal b.nodes b.arcs (length (map meaning costs)) ≡ unsettled d
      refusal_is =
          ap (settle_refusal b.nodes b.arcs) (length-map costs meaning) ∙ settle_refusal_alike d.book b at.same (length costs)
          ∙ ap (λ (cs : List C). settle_refusal d.book.nodes d.book.arcs (length cs)) at.listed

      network_is : network_of b (map meaning costs) ≡ network meaning d
      network_is = network_alike d.book b at.same (map meaning costs) ∙ ap (λ (cs : List C). network_of d.book (map meaning cs)) at.listed

      -- the same outcome, by the desk
      outcome : SettlesUnless (unsettled d) (network meaning d) b b' r
      outcome =
          subst (λ (net : Net). SettlesUnless (unsettled d) net b b' r) network_is
          (subst (λ (ρ : Option SheetFault). SettlesUnless ρ (network_of b (map meaning costs)) b b' r) refusal_is settles)

      settle_step : At d b' costs (after_settling p r) × Went call.Settle d p (after_settling p r)
      settle_step = go (unsettled d) refl r outcome (answers_unless (unsettled d) (network meaning d) b b' r (node_count d.book b at.same) outcome)
        where
          go : (ρ : Option SheetFault) → unsettled d ≡ ρ → (r : Result Amounts SheetFault) → SettlesUnless ρ (network meaning d) b b' r → Answers (unsettled d) (network meaning d) r
              → At d b' costs (after_settling p r) × Went call.Settle d p (after_settling p r)
          go (Some f) e (Ok amounts) s a = absurd (let no = s.0 in let z : ◌≡◌ {A = ℕ} 0 1 = cc in omega arith)
          go (Some f) e (Err g) s a = (
            record {
              same = ap (λ (x : Book). opened x.nodes x.arcs) s.1 ∙ at.same;
              listed = at.listed;
              stands = λ o. subst (λ (x : Book). Stands (network meaning d) x p.last) (sym s.1) (at.stands o);
              answers = a;
            },
            inr (λ accepted. some_is_not_none (sym e ∙ accepted.0), refl),
          )
          go None e (Ok amounts) s a = (
            record {
              same = s.0 ∙ at.same;
              listed = at.listed;
              stands = λ o. record { exactly = (λ _. refl, λ _. s.1.stands); settled = λ _. s.1; barred = λ x. absurd (settled_barred (sym s.1.stands ∙ x)) };
              answers = a;
            },
            inl ((e, (loads_in b', s.1.meets)), refl),
          )
          go None e (Err g) s a = (
            record {
              same = s.0 ∙ at.same;
              listed = at.listed;
              stands = λ o. record {
                exactly = (
                  λ x. absurd (settled_barred (sym x ∙ s.1.stands)),
                  λ k. absurd (over_full_bars (network meaning d) (marks_in b') ends s.1.over_full (loads_in b) ((at.stands o).settled ((at.stands o).exactly.1 k)).meets),
                );
                settled = λ x. absurd (settled_barred (sym x ∙ s.1.stands));
                barred = λ _. s.1;
              };
              answers = a;
            },
            inr (λ accepted. over_full_bars (network meaning d) (marks_in b') ends s.1.over_full accepted.1.0 accepted.1.1, refl),
          )

    -- any call
    pub one_more : Ends (network meaning d) → (c : Call C) (b' : Book) (costs' : List C) (q : Progress) → Step meaning c b costs b' costs' p q → At (set_by c d) b' costs' q × Went c d p q
    one_more ends (call.Supply node amount) b' costs' q step =
        put_in (λ x cs y. At (set_by (call.Supply node amount) d) x cs y × Went (call.Supply node amount) d p y) _ b' _ costs' _ q step.0 step.1 step.2 (supply_step node amount)
    one_more ends (call.Swap arc cost) b' costs' q step =
        put_in (λ x cs y. At (set_by (call.Swap arc cost) d) x cs y × Went (call.Swap arc cost) d p y) _ b' _ costs' _ q step.0 step.1 step.2 (swap_step arc cost)
    one_more ends call.Settle b' costs' q (r, settles, same, is) =
        put_in (λ x cs y. At d x cs y × Went call.Settle d p y) b' b' _ costs' _ q refl same is (settle_step ends b' r settles)
