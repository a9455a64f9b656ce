use Rattle.cd_parse.proofs.OneName.{name_single}
use Rattle.cd_parse.proofs.laws.one_name.Goals as goal

pub returns : goal.returns
returns c = λ front t v w. name_single v w front t
