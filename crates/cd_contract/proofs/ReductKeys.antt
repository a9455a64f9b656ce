-- A reduct has a smaller key, tidied or not.
use Rattle.std.proofs.Common.{inl, inr, ap, ◌∙◌}
use Rattle.cd_key.specs.Keys.{forms_compare}
use Rattle.cd_key.proofs.Parts.{forms_ordered, forms_decide}
use Rattle.cd_subsume.proofs.TidyForms.{tidy_subsumes}
use Rattle.cd_contract.specs.Laws.{ReductsFall, ReductsHaveSmallerKeys}
use Rattle.cd_contract.proofs.SubsumerForms.{subsumer_forms}
use Rattle.cd_contract.proofs.Falling.{reduct_forms}

pub reducts_fall : ReductsFall
reducts_fall o e c d t at s r (inl same) = ap (λ x. forms_compare o x c) same ∙ reduct_forms o e c d at s r
reducts_fall o e c d t at s r (inr tidied) =
    (forms_ordered o).then_below t d c (subsumer_forms o t d (tidy_subsumes d t tidied)) (reduct_forms o e c d at s r)

pub reducts_have_smaller_keys : ReductsHaveSmallerKeys
reducts_have_smaller_keys o e c d t at s n m r is = forms_decide o t c n m (reducts_fall o e c d t at s r is)
