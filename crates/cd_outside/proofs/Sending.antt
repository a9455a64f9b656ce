-- Lemmas for a loop that sends a text piece by piece.
use Rattle.std.specs.Prelude.{◌≡◌, ℕ, List, [], ◌++◌, take, drop, length, Option, refl}
use Rattle.std.specs.Io.KnownBytes.{Appends, Keeps}
use Rattle.std.proofs.Common.{sym, ◌∙◌, ap, subst, append_assoc, append-nil}
use Rattle.std.proofs.KnownBytes.{Appends-nil, Appends-trans, Appends-kept}
use Rattle.std.proofs.lemmas.List.{take-append-drop}
use Rattle.std.proofs.Math.Seq.{take-append_seam}
use Rattle.cd_outside.specs.Outside.{AppendsFront}
use Rattle.cd_outside.specs.Sent.{Sent}

-- at the start nothing is taken, and the rest is the text
pub sent_start : (a : Option (List ℕ)) (text : List ℕ) → Sent a a text text
sent_start a text = record { done = []; split = refl; taken = Appends-nil a }

-- a piece of the rest is taken
pub sent_more : (a b c : Option (List ℕ)) (text rest : List ℕ) (n : ℕ) → Sent a b text rest → Appends b c (take n rest) → Sent a c text (drop n rest)
sent_more a b c text rest n s more =
    record {
      done = s.done ++ take n rest;
      split = s.split ∙ ap (λ (l : List ℕ). s.done ++ l) (sym (take-append-drop n rest)) ∙ sym (append_assoc s.done (take n rest) (drop n rest));
      taken = Appends-trans a b c s.done (take n rest) s.taken more;
    }

-- a call takes nothing
pub sent_keeps : (a b c : Option (List ℕ)) (text rest : List ℕ) → Sent a b text rest → Keeps b c → Sent a c text rest
sent_keeps a b c text rest s kept = record { done = s.done; split = s.split; taken = Appends-kept a b c s.done s.taken kept }

-- where no rest is left, the whole text was taken
pub sent_end : (a b : Option (List ℕ)) (text rest : List ℕ) → Sent a b text rest → rest ≡ [] → Appends a b text
sent_end a b text rest s is =
    let whole : text ≡ s.done = s.split ∙ ap (λ (l : List ℕ). s.done ++ l) is ∙ append-nil s.done in
    subst (λ (l : List ℕ). Appends a b l) (sym whole) s.taken

-- at any time a front of the text was taken
pub sent_front : (a b : Option (List ℕ)) (text rest : List ℕ) → Sent a b text rest → AppendsFront a b text
sent_front a b text rest s =
    let front : take (length s.done) text ≡ s.done = ap (λ (l : List ℕ). take (length s.done) l) s.split ∙ take-append_seam s.done rest in
    (length s.done, subst (λ (l : List ℕ). Appends a b l) (sym front) s.taken)

-- a piece is taken in part, and then no more
pub sent_part : (a b c : Option (List ℕ)) (text rest : List ℕ) (n : ℕ) → Sent a b text rest → AppendsFront b c (take n rest) → AppendsFront a c text
sent_part a b c text rest n s part =
    let m : ℕ = part.0 in
    let piece : List ℕ = take n rest in
    let split : rest ≡ take m piece ++ (drop m piece ++ drop n rest)
    = sym (take-append-drop n rest) ∙ ap (λ (l : List ℕ). l ++ drop n rest) (sym (take-append-drop m piece)) ∙ append_assoc (take m piece) (drop m piece) (drop n rest) in
    let sent : Sent a c text (drop m piece ++ drop n rest)
    = record {
      done = s.done ++ take m piece;
      split = s.split ∙ ap (λ (l : List ℕ). s.done ++ l) split ∙ sym (append_assoc s.done (take m piece) (drop m piece ++ drop n rest));
      taken = Appends-trans a b c s.done (take m piece) s.taken part.1;
    } in
    sent_front a c text _ sent
