-- A chain as a whole, from its first call to its last.
use Rattle.std.proofs.Common.{◌≡◌, ℕ, ◌+◌, ◌<◌, ◌⊎◌, List, [], ◌∷◌, ◌++◌, map, length, get_or, take, IfSome, MatchOption, Some, None, Option, Result, sym, refl, ap, ◌∙◌, subst, inl, inr}
use Rattle.std.proofs.lemmas.List.{length-map, take_more}
use Rattle.cost.specs.Meaning.{Meaning}
use Rattle.network.specs.Network.{Net, Ends}
use Rattle.network.specs.Records.{Sound}
use Rattle.network.proofs.Nets.{sound_ends}
use Rattle.ledger.specs.Books.{Book, network_of}
use Rattle.ledger.specs.Settling.{settle_refusal, Answers}
use Rattle.ledger.specs.declared.faults.SheetFault.{SheetFault}
use Rattle.ledger.specs.declared.settling.Amounts.{Amounts}
use Rattle.ledger.proofs.Outcomes.{answers_exactly, answers_or_none}
use Rattle.chain.specs.Chains.{Desk, network, unsettled, set_by, set_last, Accepted, kind_of, LastAccepted, Replayed}
use Rattle.chain.specs.Steps.{Step, at_start, Made}
use Rattle.chain.specs.declared.calls.Call.{Call}
use Rattle.chain.specs.declared.calls.Kind.{Kind}
use Rattle.chain.specs.declared.calls.Progress.{Progress}
use Rattle.chain.proofs.Alike.{network_alike, settle_refusal_alike}
use Rattle.chain.proofs.Steps.{put_in, At, one_more, stands_open, nothing_is_no_settle}

-- what a further call sets
set_last_more : {C : Type 0} (d : Desk C) (xs : List (Call C)) (x : Call C) → set_last d (xs ++ x ∷ []) ≡ set_by x (set_last d xs)
set_last_more d [] x = refl
set_last_more d (y ∷ xs) x = set_last_more (set_by y d) xs x

module _ {C : Type 0} (meaning : C → Meaning) where
  -- which call is the last one accepted after a further call
  last_more : (d : Desk C) (before : Option Kind) (xs : List (Call C)) (x : Call C) (j k : Option Kind) → LastAccepted meaning d before xs j
      → (Accepted meaning x (set_last d xs) × (k ≡ Some (kind_of x))) ⊎ ((Accepted meaning x (set_last d xs) → ⊥) × (k ≡ j)) → LastAccepted meaning d before (xs ++ x ∷ []) k
  last_more d before [] x j k last (inl (accepted, is)) = inl (accepted, is)
  last_more d before [] x j k last (inr (refused, is)) = inr (refused, is ∙ last)
  last_more d before (y ∷ xs) x j k (inl (accepted, last)) went = inl (accepted, last_more (set_by y d) (Some (kind_of y)) xs x j k last went)
  last_more d before (y ∷ xs) x j k (inr (refused, last)) went = inr (refused, last_more (set_by y d) before xs x j k last went)

  -- the calls made, and a further one
  made_more : (xs : List (Call C)) (x : Call C) (b b₁ b₂ : Book) (costs costs₁ costs₂ : List C) (p p₁ p₂ : Progress)
      → Made meaning xs b costs p b₁ costs₁ p₁ → Step meaning x b₁ costs₁ b₂ costs₂ p₁ p₂ → Made meaning (xs ++ x ∷ []) b costs p b₂ costs₂ p₂
  made_more [] x b b₁ b₂ costs costs₁ costs₂ p p₁ p₂ (same, listed, known) step =
      (b₂, costs₂, p₂, put_in (λ b cs y. Step meaning x b cs b₂ costs₂ y p₂) b₁ b costs₁ costs p₁ p (sym same) (sym listed) (sym known) step, (refl, refl, refl))
  made_more (y ∷ xs) x b b₁ b₂ costs costs₁ costs₂ p p₁ p₂ (b₀, costs₀, p₀, first, rest) step =
      (b₀, costs₀, p₀, first, made_more xs x b₀ b₁ b₂ costs₀ costs₁ costs₂ p₀ p₁ p₂ rest step)

  module _ (start : Desk C) where
    -- what is known after the first calls of a chain
    pub record Reached (seen : List (Call C)) (b : Book) (costs : List C) (p : Progress) : Type 0 where
      pub at : At meaning start.book (set_last start seen) b costs p
      pub last : LastAccepted meaning start None seen p.last
      pub made : Made meaning seen start.book start.costs at_start b costs p

    -- before the first call
    pub reached_none : Reached [] start.book start.costs at_start
    reached_none = record {
      at = record { same = refl; listed = refl; stands = λ o. stands_open (network meaning start) start.book None o nothing_is_no_settle; answers = tt };
      last = refl;
      made = (refl, refl, refl);
    }

    -- after a further call
    pub reached_more : (calls : List (Call C)) (i : ℕ) (x : Call C) → i < length calls → x ≡ get_or calls i x → (b b' : Book) (costs costs' : List C) (p q : Progress) → Sound b.nodes b.arcs
        → Reached (take i calls) b costs p → Step meaning x b costs b' costs' p q → Reached (take (i + 1) calls) b' costs' q
    reached_more calls i x h is b b' costs costs' p q sound reached step =
        let d = set_last start (take i calls) in
        let at = reached.at in
        let alike : network_of b (map meaning costs) ≡ network meaning d = network_alike d.book b at.same (map meaning costs) ∙ ap (λ (cs : List C). network_of d.book (map meaning cs)) at.listed in
        let ends = subst Ends alike (sound_ends b.nodes b.arcs (map meaning costs) sound) in
        let on = one_more meaning start.book d b costs p at ends x b' costs' q step in
        let more : take (i + 1) calls ≡ take i calls ++ x ∷ [] = take_more calls i x h ∙ ap (λ (y : Call C). take i calls ++ y ∷ []) (sym is) in
        subst (λ (seen : List (Call C)). Reached seen b' costs' q) (sym more)
        (record {
          at = subst (λ (d : Desk C). At meaning start.book d b' costs' q) (sym (set_last_more start (take i calls) x)) on.0;
          last = last_more start None (take i calls) x p.last q.last reached.last on.1;
          made = made_more (take i calls) x start.book b b' start.costs costs costs' at_start p q reached.made step;
        })

    -- the end of a chain
    module _ (calls : List (Call C)) (b : Book) (costs : List C) (p : Progress) (sound : Sound b.nodes b.arcs) (reached : Reached calls b costs p) where
      abbrev d : Desk C
      d = set_last start calls

      alike : network_of b (map meaning costs) ≡ network meaning d
      alike = network_alike d.book b reached.at.same (map meaning costs) ∙ ap (λ (cs : List C). network_of d.book (map meaning cs)) reached.at.listed

      unsettled_alike : settle_refusal b.nodes b.arcs (length costs) ≡ unsettled d
      unsettled_alike =
          settle_refusal_alike d.book b reached.at.same (length costs) ∙ ap (λ (cs : List C). settle_refusal d.book.nodes d.book.arcs (length cs)) reached.at.listed

      pub replayed : (r : Result Amounts SheetFault) → IfSome p.answer (λ a. r ≡ a) → Answers (unsettled d) (network meaning d) r → Replayed meaning start calls (record { book = b; costs = costs }) (record { last = p.last; outlook = r })
      replayed r kept answers =
          let ends = subst Ends alike (sound_ends b.nodes b.arcs (map meaning costs) sound) in
          let long = length-map d.costs meaning in
          let known = subst (λ (n : ℕ). Answers (settle_refusal d.book.nodes d.book.arcs n) (network meaning d) r) (sym long) answers in
          record {
            made = (p, reached.made, refl, kept);
            network_set = reached.at.same;
            costs_set = reached.at.listed;
            last = reached.last;
            stands = reached.at.stands;
            exactly = λ listed. answers_exactly d.book (map meaning d.costs) ends r (long ∙ listed) known;
            outlook = answers;
            refuses = λ none. answers_or_none d.book (map meaning d.costs) ends r (ap (settle_refusal d.book.nodes d.book.arcs) long ∙ none) known;
          }

      -- an answer that was kept
      pub replayed_kept : (r : Result Amounts SheetFault) → p.answer ≡ Some r → Replayed meaning start calls (record { book = b; costs = costs }) (record { last = p.last; outlook = r })
      replayed_kept r is = replayed r (subst (λ (a : Option (Result Amounts SheetFault)). IfSome a (λ a. r ≡ a)) (sym is) refl) (subst (λ (a : Option (Result Amounts SheetFault)). IfSome a (Answers (unsettled d) (network meaning d))) is reached.at.answers)

      -- an answer that the book gives
      pub replayed_asked : (r : Result Amounts SheetFault) → p.answer ≡ None → Answers (settle_refusal b.nodes b.arcs (length costs)) (network_of b (map meaning costs)) r → Replayed meaning start calls (record { book = b; costs = costs }) (record { last = p.last; outlook = r })
      replayed_asked r is answers = replayed r (subst (λ (a : Option (Result Amounts SheetFault)). IfSome a (λ a. r ≡ a)) (sym is) tt) (subst (λ (ρ : Option SheetFault). Answers ρ (network meaning d) r) unsettled_alike (subst (λ (net : Net). Answers (settle_refusal b.nodes b.arcs (length costs)) net r) alike answers))

      -- an answer that was kept, or else one that the book gives
      pub replayed_end : (r : Result Amounts SheetFault) → MatchOption p.answer (Answers (settle_refusal b.nodes b.arcs (length costs)) (network_of b (map meaning costs)) r) (λ kept. r ≡ kept) → Replayed meaning start calls (record { book = b; costs = costs }) (record { last = p.last; outlook = r })
      replayed_end r told = go p.answer refl told
        where
          go : (answer : Option (Result Amounts SheetFault)) → p.answer ≡ answer → MatchOption answer (Answers (settle_refusal b.nodes b.arcs (length costs)) (network_of b (map meaning costs)) r) (λ kept. r ≡ kept)
              → Replayed meaning start calls (record { book = b; costs = costs }) (record { last = p.last; outlook = r })
          go None is answers = replayed_asked r is answers
          go (Some kept) is same = replayed_kept r (is ∙ ap Some (sym same))
