-- A text that is accepted passes.
use Rattle.std.proofs.Common.{◌≡◌, inl, inr, ◌∙◌, ◌≤◌, ℕ, List, [], Option, Some, None, length, Ok, Err, refl, sym, ap, subst, arith}
use Rattle.std.specs.Prelude.{◌≢◌}
use Rattle.cd_read.specs.declared.problem.Problem.{Problem as ProblemValue}
use Rattle.cd_read.specs.declared.problem.Wrong.{Wrong}
use Rattle.cd_read.specs.Fetched.{Holds, Told, IsWholeFile}
use Rattle.cd_read.specs.Files.{File, Reads}
use Rattle.cd_read.specs.Laws.{AreHeld, FaultsAreTold, HeldReadingsAgree, ProblemsAreBounded, ProblemsAreFormed, WholeFilesAreTold}
use Rattle.cd_check.specs.Accepted.{AcceptedText}
use Rattle.cd_check.specs.Verdicts.{Judges, VerdictsAreOne}
use Rattle.cd_check.specs.declared.verdict.Why.{Why}
use Rattle.cd_check.specs.declared.verdict.Verdict.TheVariants as verdict
use Rattle.cd_checktop.specs.declared.answer.CheckAnswer.{CheckAnswer}
use Rattle.cd_checktop.specs.declared.answer.CheckAnswer.TheVariants.{Accepted, Refused, Usage, Problem, LibraryFault, SinkFault, Memory}
use Rattle.cd_checktop.specs.Checked.{HasFault, IsAnswerTo, IsChecked, IsJudged, IsLong, IsPastCap, IsSettled}
use Rattle.cd_checktop.specs.Laws.{AcceptedTextsPass}

-- the laws of what stands below
pub record Below : Type 1 where
  pub readings : HeldReadingsAgree
  pub whole : WholeFilesAreTold
  pub faults : FaultsAreTold
  pub formed : ProblemsAreFormed
  pub bounded : ProblemsAreBounded
  pub verdicts : VerdictsAreOne

abbrev Words : Type 0
Words = Option (List ℕ × List ℕ)

abbrev both : List ℕ → List ℕ → Words
both a b = Some (a, b)

abbrev of_words : (List ℕ × List ℕ → List ℕ) → Words → List ℕ
of_words part None = []
of_words part (Some words) = part words

first_word : (a b c d : List ℕ) → both a b ≡ both c d → a ≡ c
first_word a b c d e = ap (of_words (λ w. w.0)) e

second_word : (a b c d : List ℕ) → both a b ≡ both c d → b ≡ d
second_word a b c d e = ap (of_words (λ w. w.1)) e

-- what is held under the second word is the text
text_is : (holds : Holds) (derivation other text all : List ℕ) → derivation ≡ other → holds derivation ≡ Some text
    → IsWholeFile (holds other) all → all ≡ text
text_is holds derivation other text all e there whole =
    subst (λ (o : Option (List ℕ)). IsWholeFile o all) (ap holds (sym e) ∙ there) whole

refused_not : (below : Below) (holds : Holds) (path derivation text : List ℕ) (files : List File) (p : ProblemValue) (before now : Told)
    (line : ℕ) (w : Why) → AreHeld holds files → Reads files path (Ok p) → AcceptedText p text → holds derivation ≡ Some text
    → IsJudged holds (Some (path, derivation)) before now (verdict.Refused line w) → ⊥
refused_not below holds path derivation text files p before now line w held reads accepted there j =
    let f = j.fetched in
    let paths : path ≡ f.problem = first_word path derivation f.problem f.derivation f.words_are in
    let texts : j.text ≡ text = text_is holds derivation f.derivation text j.text (second_word path derivation f.problem f.derivation f.words_are) there j.whole in
    let again : Reads f.files path (Ok j.problem) = subst (λ (x : List ℕ). Reads f.files x (Ok j.problem)) (sym paths) f.reads in
    let problems : Ok p ≡ Ok j.problem = below.readings holds files f.files path (Ok p) (Ok j.problem) held (below.whole holds 0 f.files f.whole) reads again in
    let same : p ≡ j.problem = cc in
    let judged : Judges p text (verdict.Refused line w) =
    subst (λ (q : ProblemValue). Judges q text (verdict.Refused line w)) (sym same)
    (subst (λ (x : List ℕ). Judges j.problem x (verdict.Refused line w)) texts j.judges) in
    let one = below.verdicts p text (verdict.Accepted (length accepted.lines)) (verdict.Refused line w)
    (below.bounded files path p reads).distinct (below.formed files path p reads).texts (accepted, refl) judged in
    absurd (cc)

fault_not : (below : Below) (holds : Holds) (path derivation : List ℕ) (files : List File) (p : ProblemValue) (before now : Told)
    (w : Wrong) → AreHeld holds files → Reads files path (Ok p) → HasFault holds (Some (path, derivation)) before now w → ⊥
fault_not below holds path derivation files p before now w held reads h =
    let paths : path ≡ h.problem = first_word path derivation h.problem h.derivation h.words_are in
    let again : Reads h.files path (Err w) = subst (λ (x : List ℕ). Reads h.files x (Err w)) (sym paths) h.fault in
    let one : Ok p ≡ Err w = below.readings holds files h.files path (Ok p) (Err w) held (below.faults holds 0 before now w h.files h.told) reads again in
    absurd (cc)

long_not : (holds : Holds) (path derivation text : List ℕ) (before now : Told) (w : Wrong) → holds derivation ≡ Some text
    → length text ≤ 67108864 → IsLong holds (Some (path, derivation)) before now w → ⊥
long_not holds path derivation text before now w there short l =
    let f = l.fetched in
    let words : derivation ≡ f.derivation = second_word path derivation f.problem f.derivation f.words_are in
    let past = subst IsPastCap (ap holds (sym words) ∙ there) l.past in
    omega (arith, past, short)

pub accepted_pass : Below → AcceptedTextsPass
accepted_pass below holds path derivation text files p before now made answer held reads accepted there short checked answers settled ample =
    of_answer answers
  where
    of_made : (a : CheckAnswer) → IsChecked holds (Some (path, derivation)) before now a → IsSettled a → a ≢ Memory
        → (lines : ℕ) × (a ≡ Accepted lines)
    of_made (Accepted lines) c s m = (lines, refl)
    of_made (Refused line w) c s m =
        absurd (refused_not below holds path derivation text files p before now line w held reads accepted there c)
    of_made Usage c s m = absurd s
    of_made (Problem w) (inl fault) s m = absurd (fault_not below holds path derivation files p before now w held reads fault)
    of_made (Problem w) (inr long) s m = absurd (long_not holds path derivation text before now w there short long)
    of_made (LibraryFault q) c s m = absurd s
    of_made SinkFault c s m = absurd s
    of_made Memory c s m = absurd (m refl)

    of_answer : IsAnswerTo made answer → (lines : ℕ) × (answer ≡ Accepted lines)
    of_answer (inl e) = of_made answer (subst (IsChecked holds (Some (path, derivation)) before now) (sym e) checked) settled ample
    of_answer (inr (e, m)) = absurd (subst IsSettled e settled)
