-- What was told in two calls.
use Rattle.std.proofs.Common.{◌≡◌, ◌≢◌, ℕ, ◌<◌, ◌≤◌, List, [], ◌∷◌, ◌++◌, length, min, refl, sym, ap, ◌∙◌, subst, append-nil, Option, Some, None, inl, inr, arith}
use Rattle.std.proofs.lemmas.List.{length-take, take_all}
use Rattle.std.proofs.lemmas.List.Sums.{sum_by-cons}
use Rattle.cd_outside.specs.Outside.{Gives, Rose, Fetches, AppendsFirst}
use Rattle.cd_outside.proofs.Giving.{gives_more, gives_none}
use Rattle.cd_parse.specs.declared.label.What.TheVariants.{Long}
use Rattle.cd_read.specs.declared.problem.Problem.{Problem as ProblemValue}
use Rattle.cd_read.specs.declared.reader.ReadFault.{ReadFault}
use Rattle.cd_read.specs.declared.reader.ReadFault.TheVariants as faults
use Rattle.cd_read.specs.Files.{File}
use Rattle.cd_read.specs.Fetched.{Told, Holds, GaveWhole, IsReadFrom, IsReadFault, IsOfLibrary, FetchesAtMost, IsWholeFile}
use Rattle.cd_check.proofs.Refuting.{accepted_texts_refute}
use Rattle.cd_checktop.specs.declared.answer.CheckAnswer.{CheckAnswer}
use Rattle.cd_checktop.specs.declared.answer.CheckAnswer.TheVariants.{Accepted, Refused, Usage, Problem, LibraryFault, SinkFault, Memory}
use Rattle.cd_checktop.specs.Checked.{IsFetched, IsPastCap, IsTold, IsTextAnswer, IsDerived, IsAnswerOf, IsLibraryFault, IsChecked, FetchesFew}

text_checked : (holds : Holds) (words : Option (List ℕ × List ℕ)) (derivation text : List ℕ) (before mid now : Told) (p : ProblemValue) (made : CheckAnswer) (f : IsFetched holds words before now p text) → f.derivation ≡ derivation
    → IsTold (holds f.derivation) mid now f.derivation text → IsTextAnswer p derivation text made → IsChecked holds words before now made
text_checked holds words derivation text before mid now p (Accepted lines) f is t a =
    (record { problem = p; text = text; fetched = f; short = a.0; whole = t.whole a.0; judges = a.1 }, accepted_texts_refute p text a.1.0)
text_checked holds words derivation text before mid now p (Refused line w) f is t a =
    record { problem = p; text = text; fetched = f; short = a.0; whole = t.whole a.0; judges = a.1 }
text_checked holds words derivation text before mid now p Usage f is t a = absurd a
text_checked holds words derivation text before mid now p (Problem w) f is t a =
    inr (record { problem = p; text = text; fetched = f; long = a.0; past = t.past a.0; wrong = a.1 ∙ ap (λ (d : List ℕ). record { what = Long; file = d; at = 0 }) (sym is) })
text_checked holds words derivation text before mid now p (LibraryFault failed) f is t a = absurd a
text_checked holds words derivation text before mid now p SinkFault f is t a = absurd a
text_checked holds words derivation text before mid now p Memory f is t a = absurd a

-- the problem was read, and then the derivation was looked at; what the library holds stays
pub checked : (holds : Holds) (path derivation : List ℕ) (all : Option (List ℕ)) (before mid now : Told) (p : ProblemValue) (made : CheckAnswer) → all ≡ holds derivation
    → IsReadFrom path holds before mid p → IsDerived p derivation all mid now made → IsChecked holds (Some (path, derivation)) before now made
checked holds path derivation all before mid now p made stays read d =
    let words : Option (List ℕ × List ℕ) = Some (path, derivation) in
    elim d [
      | inl x ↦
          let f : IsFetched holds words before now p x.0 = record {
            problem = path;
            derivation = derivation;
            files = read.0;
            words_are = refl;
            told = gives_more before mid now read.0 ((derivation, x.0) ∷ []) read.1.told x.1.told;
            whole = read.1.whole;
            reads = read.2;
          } in
          text_checked holds words derivation x.0 before mid now p made f refl (subst (λ (o : Option (List ℕ)). IsTold o mid now derivation x.0) stays x.1) x.2
      | inr x ↦
          let g : GaveWhole holds before now read.0 = record {
            told = subst (Gives before now) (append-nil read.0) (gives_more before mid now read.0 [] read.1.told x.1);
            whole = read.1.whole;
          } in
          subst (IsChecked holds words before now) (sym x.0) (record { problem = path; derivation = derivation; files = read.0; words_are = refl; told = g; which = inr (refl, (p, read.2)) })
    ]

pub faulty : (holds : Holds) (path derivation : List ℕ) (before now : Told) (fault : ReadFault) (made : CheckAnswer) → IsReadFault path holds before now fault → IsAnswerOf fault made → IsChecked holds (Some (path, derivation)) before now made
faulty holds path derivation before now (faults.Library failed) made f is =
    subst (IsChecked holds (Some (path, derivation)) before now) (sym is) (record { problem = path; derivation = derivation; files = f.0; words_are = refl; told = f.1; which = inl f.2 })
faulty holds path derivation before now (faults.Wrong w) made f is =
    subst (IsChecked holds (Some (path, derivation)) before now) (sym is) (inl (record { problem = path; derivation = derivation; files = f.0; words_are = refl; told = f.1; fault = f.2 }))
faulty holds path derivation before now faults.Memory made f is = absurd is

pub of_library : (fault : ReadFault) (made : CheckAnswer) → IsAnswerOf fault made → IsLibraryFault made → IsOfLibrary fault
of_library (faults.Library failed) made is h = tt
of_library (faults.Wrong w) made is h = subst IsLibraryFault is h
of_library faults.Memory made is h = is

-- neither is made of a fault of reading
pub first_answer : (fault : ReadFault) (made : CheckAnswer) → IsAnswerOf fault made → (made ≢ SinkFault) × (made ≢ Memory)
first_answer (faults.Library failed) made is = (λ e. let f : LibraryFault failed ≡ SinkFault = sym is ∙ e in cc, λ e. let f : LibraryFault failed ≡ Memory = sym is ∙ e in cc)
first_answer (faults.Wrong w) made is = (λ e. let f : Problem w ≡ SinkFault = sym is ∙ e in cc, λ e. let f : Problem w ≡ Memory = sym is ∙ e in cc)
first_answer faults.Memory made is = absurd is

-- a count that rose after it had grown, rose
pub rose_later : (before mid now : ℕ) → before ≤ mid → Rose mid now → Rose before now
rose_later before mid now le rose = omega (arith, le, rose)

-- ---- the bytes of the derivation

whole_of : (all : Option (List ℕ)) (text : List ℕ) → AppendsFirst all 67108865 [] text → length text ≤ 67108864 → IsWholeFile all text
whole_of None text first short = tt
whole_of (Some file) text first short =
    let n : length text ≡ min 67108865 (length file) = ap length first ∙ length-take 67108865 file in
    first ∙ take_all 67108865 file (omega (arith, n, short))

past_of : (all : Option (List ℕ)) (text : List ℕ) → AppendsFirst all 67108865 [] text → 67108864 < length text → IsPastCap all
past_of None text first long = tt
past_of (Some file) text first long =
    let n : length text ≡ min 67108865 (length file) = ap length first ∙ length-take 67108865 file in
    omega (arith, n, long)

pub told_is : (all : Option (List ℕ)) (before now : Told) (derivation old text : List ℕ) → old ≡ [] → Fetches before now derivation 67108865 old text → AppendsFirst all 67108865 old text → IsTold all before now derivation text
told_is all before now derivation old text none f first =
    let same : text ≡ f.given = f.added ∙ ap (λ (l : List ℕ). l ++ f.given) none in
    let front : AppendsFirst all 67108865 [] text = subst (λ (l : List ℕ). AppendsFirst all 67108865 l text) none first in
    record {
      told = subst (λ (l : List ℕ). Gives before now ((derivation, l) ∷ [])) (sym same) f.told;
      capped = subst (λ (l : List ℕ). length l ≤ 67108865) (sym same) f.capped;
      whole = whole_of all text front;
      past = past_of all text front;
    }

pub told_few : (before now : Told) (derivation old text : List ℕ) → Fetches before now derivation 67108865 old text → FetchesAtMost 67108865 before now
told_few before now derivation old text f =
    record { files = (derivation, f.given) ∷ []; told = f.told; few = omega (arith, f.capped, sum_by-cons (λ (x : File). length x.1) (derivation, f.given) []) }

pub none_few : (before now : Told) → Gives before now [] → FetchesAtMost 67108865 before now
none_few before now none = record { files = []; told = none; few = omega arith }

pub few : (before mid now : Told) → FetchesAtMost 4194305 before mid → FetchesAtMost 67108865 mid now → FetchesFew before now
few before mid now f g =
    record { files = f.files; derivations = g.files; told = gives_more before mid now f.files g.files f.told g.told; few = f.few; few_more = g.few }

pub few_first : (before now : Told) → FetchesAtMost 4194305 before now → FetchesFew before now
few_first before now f =
    record { files = f.files; derivations = []; told = subst (Gives before now) (sym (append-nil f.files)) f.told; few = f.few; few_more = omega arith }

pub few_none : (told : Told) → FetchesFew told told
few_none told = record { files = []; derivations = []; told = gives_none told; few = omega arith; few_more = omega arith }
