use Rattle.cd_key.proofs.FormLemmas.{forms_total, key_order, names_decide}
use Rattle.cd_key.proofs.laws.orders.Goals as goal

pub returns-clause-forms : goal.returns-clause-forms
returns-clause-forms c = forms_total

pub returns-clause-keys : goal.returns-clause-keys
returns-clause-keys c = key_order

pub returns-clause-names : goal.returns-clause-names
returns-clause-names c = names_decide
