-- The text of a finished run's refutation is accepted.
use Rattle.std.proofs.Common.{◌≡◌, ℕ, true, List, ◌++◌, codes, refl, ◌∙◌}
use Rattle.cd_read.specs.declared.problem.Problem.{Problem}
use Rattle.cd_text.specs.declared.line.Line.{Line}
use Rattle.cd_text.specs.Texts.{shown}
use Rattle.cd_text.specs.Feeds.{feedless}
use Rattle.cd_text.proofs.Feedless.{feedless-append, shown_feedless}
use Rattle.cd_check.specs.Accepted.{IsRefutation, AcceptedText}
use Rattle.cd_check.specs.Lines.{IsComment, RefutationsAreAccepted}
use Rattle.cd_top.specs.Texts.{unsatisfiable_line, start_line, end_line, refuted_text}

named_feedless : (words name : List ℕ) → feedless words ≡ true → feedless (words ++ shown name) ≡ true
named_feedless words name none = feedless-append words (shown name) ∙ rw (none, shown_feedless name) refl

-- a line of words that begin with a percent sign, and of the problem's name, is a comment
first_comment : (name : List ℕ) → IsComment (unsatisfiable_line name)
first_comment name = record { begins = refl; one_line = named_feedless (codes "% SZS status Unsatisfiable for ") name refl }

second_comment : (name : List ℕ) → IsComment (start_line name)
second_comment name = record { begins = refl; one_line = named_feedless (codes "% SZS output start CNFRefutation for ") name refl }

last_comment : (name : List ℕ) → IsComment (end_line name)
last_comment name = record { begins = refl; one_line = named_feedless (codes "% SZS output end CNFRefutation for ") name refl }

pub text_accepted : RefutationsAreAccepted → (p : Problem) (lines : List Line) → IsRefutation p lines → AcceptedText p (refuted_text p lines)
unfolding refuted_text
text_accepted law p lines refutes =
    law p (unsatisfiable_line p.name) (start_line p.name) (end_line p.name) lines (first_comment p.name) (second_comment p.name) (last_comment p.name) refutes
