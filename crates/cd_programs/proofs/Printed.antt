-- A printed refutation is an accepted text of the problem that was read.
use Rattle.std.proofs.Common.{◌≡◌, ◌∙◌, ℕ, List, Option, Some, None, ap, sym, subst}
use Rattle.cd_read.specs.declared.problem.Problem.{Problem}
use Rattle.cd_read.specs.Fetched.{Holds, IsReadFrom, Told}
use Rattle.cd_check.specs.Accepted.{AcceptedText}
use Rattle.cd_options.specs.declared.options.Options.{Options}
use Rattle.cd_options.specs.declared.options.Origins.{Origins}
use Rattle.cd_top.specs.Asked.{grid_asked, grid_of}
use Rattle.cd_top.specs.Headline.{IsProblemOf, IsProblemTaken, RunEnds}
use Rattle.cd_top.specs.Texts.{refuted_by}
use Rattle.cd_top.specs.declared.answer.Account.{Account}
use Rattle.cd_top.specs.declared.answer.Answer.TheVariants.{Refuted}
use Rattle.cd_checktop.specs.Laws.{AcceptedTextsPass}
use Rattle.cd_programs.specs.Passing.{Passes, RefutationsPass}

-- of a file the whole text is printed
text_accepted : (account : Account) (peer : ℕ) (p : Problem) → grid_asked account.asked ≡ None → RunEnds account (Refuted peer) (Some p) → AcceptedText p account.text
text_accepted account peer p none (first, w, recorded, ends) =
    subst (AcceptedText p) (sym (ends.text ∙ ap (λ (grid : Option ℕ). refuted_by grid p ends.lines) none)) ends.accepted

by_problem : (path : List ℕ) (holds : Holds) (before now : Told) (account : Account) (peer : ℕ) → AcceptedTextsPass → grid_asked account.asked ≡ None
    → (problem : Option Problem) → IsProblemTaken account.asked holds before now problem → ((p : Problem) → IsProblemTaken account.asked holds before now (Some p) → IsReadFrom path holds before now p)
    → RunEnds account (Refuted peer) problem → Passes path account.text holds before now
by_problem path holds before now account peer law file None taken reads run = absurd taken
by_problem path holds before now account peer law file (Some p) taken reads run =
    let read = reads p taken in
    record {
      files = read.0;
      told = read.1;
      passes = λ shelf derivation since later made answer held there short checked answers settled ample.
          law shelf path derivation account.text read.0 p since later made answer held read.2 (text_accepted account peer p file run) there short checked answers settled ample;
    }

pub refutation_passes : AcceptedTextsPass → RefutationsPass
refutation_passes law path holds before now account peer h =
    by_problem path holds before now account peer law (ap (λ (o : Option Options). grid_asked o) h.asked ∙ ap (λ (s : Origins). grid_of s) h.source) account.problem h.read
    (λ p taken. subst (λ (s : Origins). IsProblemOf s holds before now p) h.source (subst (λ (o : Option Options). IsProblemTaken o holds before now (Some p)) h.asked taken)) h.run
