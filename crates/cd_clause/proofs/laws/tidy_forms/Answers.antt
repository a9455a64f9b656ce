use Rattle.cd_clause.proofs.TidiedLemmas.{tidy_forms_agree}
use Rattle.cd_clause.proofs.TidyForms.{tidy_forms_exist, tidy_forms_decide, tidy_forms_are_tidy, tidy_forms_are_small, tidy_forms_are_over}
use Rattle.cd_clause.proofs.laws.tidy_forms.Goals as goal

pub returns-clause-there : goal.returns-clause-there
returns-clause-there c = tidy_forms_exist

pub returns-clause-one : goal.returns-clause-one
returns-clause-one c = tidy_forms_agree

pub returns-clause-decide : goal.returns-clause-decide
returns-clause-decide c = tidy_forms_decide

pub returns-clause-tidy : goal.returns-clause-tidy
returns-clause-tidy c = tidy_forms_are_tidy

pub returns-clause-small : goal.returns-clause-small
returns-clause-small c = tidy_forms_are_small

pub returns-clause-over : goal.returns-clause-over
returns-clause-over c = tidy_forms_are_over
