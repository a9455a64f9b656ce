use Rattle.cd_key.proofs.Parts.{forms_ordered, forms_decide, forms_fall, fewer_forms_fall, renamed_forms_tie}
use Rattle.cd_key.proofs.laws.first_parts.Goals as goal

pub returns-clause-ordered : goal.returns-clause-ordered
returns-clause-ordered c = forms_ordered

pub returns-clause-decide : goal.returns-clause-decide
returns-clause-decide c = forms_decide

pub returns-clause-fall : goal.returns-clause-fall
returns-clause-fall c = forms_fall

pub returns-clause-fewer : goal.returns-clause-fewer
returns-clause-fewer c = fewer_forms_fall

pub returns-clause-renamed : goal.returns-clause-renamed
returns-clause-renamed c = renamed_forms_tie
