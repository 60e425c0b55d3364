-- Bytes that are written over others, one after another.
use Rattle.std.proofs.Common.{◌≡◌, ℕ, ◌+◌, ◌≤◌, List, ◌++◌, length, take, drop, sym, refl, ap, ◌∙◌, arith}
use lib.Seq.{paste}
use Rattle.std.proofs.lemmas.List.Edits.{paste_all, paste-paste, length-paste}
use Rattle.std.proofs.lemmas.List.{length-append}
use Rattle.text.specs.Writing.{HasRoom, Appends, written}
use Rattle.text.specs.declared.writing.Writer.{Writer}

-- to write twice is to write both at once
written_on : (into : List ℕ) (at : ℕ) (a b : List ℕ) → at ≤ length into → written (written into at a) (at + length a) b ≡ written into at (a ++ b)
written_on into at a b room =
    ap (λ (t : List ℕ). written t (at + length a) b) (sym (paste_all into at a (length a) refl))
    ∙ sym (paste_all (paste into at a (length a)) (at + length a) b (length b) refl)
    ∙ paste-paste into at a b (length a) (length b) refl refl room
    ∙ paste_all into at (a ++ b) (length a + length b) (sym (length-append a b))
    ∙ ap (λ (n : ℕ). take at into ++ ((a ++ b) ++ drop (at + n) into)) (sym (length-append a b))

pub length_written : (into : List ℕ) (at : ℕ) (bytes : List ℕ) → at + length bytes ≤ length into → length (written into at bytes) ≡ length into
length_written into at bytes room =
    sym (ap length (paste_all into at bytes (length bytes) refl)) ∙ length-paste into at bytes (length bytes) room (omega arith)

-- calls of a writer, one after another
module _ {w u : Writer} (a b : List ℕ) (room : HasRoom w (a ++ b)) (one : Appends a w u) where
  pub room_then : HasRoom u b
  room_then =
      let long = ap length one.bytes ∙ length_written w.bytes.now w.at a (omega (arith, room, length-append a b)) in
      omega (arith, room, one.at, long, length-append a b)

  pub appends_then : {v : Writer} → Appends b u v → Appends (a ++ b) w v
  appends_then {v} two = record {
    same = two.same ∙ one.same;
    bytes =
        two.bytes ∙ ap (λ (t : List ℕ). written t u.at b) one.bytes ∙ ap (λ (n : ℕ). written (written w.bytes.now w.at a) n b) one.at
        ∙ written_on w.bytes.now w.at a b (omega (arith, room));
    at = omega (arith, one.at, two.at, length-append a b);
  }

pub room_front : (w : Writer) (a b : List ℕ) → HasRoom w (a ++ b) → HasRoom w a
room_front w a b room = omega (arith, room, length-append a b)
