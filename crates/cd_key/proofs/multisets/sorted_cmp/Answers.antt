use Rattle.std.proofs.Common.{sym, ◌∙◌}
use Rattle.cd_key.specs.Forms.{literal_compare}
use Rattle.cd_key.proofs.FormLemmas.{forms_total}
use Rattle.cd_key.proofs.MultisetLemmas.{even_decides, only_left, only_right, left_higher, right_higher, is_lt_Less, not_lt_Less}
use Rattle.cd_key.proofs.multisets.sorted_cmp.Goals as goal

pub returns-in-None-None : goal.returns-in-None-None
returns-in-None-None c = sym (even_decides (literal_compare c.args.order.now) (forms_total c.args.order.now) c.args.c.now c.args.d.now c.in-None-None.ensures.value c.in-None-None.ensures'.value)

pub returns-in-None-Some : goal.returns-in-None-Some
returns-in-None-Some c = c.count_cmp.ensures ∙ sym (only_right (literal_compare c.args.order.now) (forms_total c.args.order.now) c.args.c.now c.args.d.now c.in-None-Some.m.now c.in-None-Some.ensures.value c.in-None-Some.ensures'.value)

pub returns-in-Some-None : goal.returns-in-Some-None
returns-in-Some-None c = c.count_cmp-in-Some-None.ensures ∙ sym (only_left (literal_compare c.args.order.now) (forms_total c.args.order.now) c.args.c.now c.args.d.now c.in-Some-None.l.now c.in-Some-None.ensures.value c.in-Some-None.ensures'.value)

pub returns-then-is_lt : goal.returns-then-is_lt
returns-then-is_lt c = c.count_cmp-then-is_lt.ensures ∙ sym (right_higher (literal_compare c.args.order.now) (forms_total c.args.order.now) c.args.c.now c.args.d.now c.in-Some-Some.l.now c.in-Some-Some.m.now
    c.in-Some-Some.ensures.value c.in-Some-Some.ensures'.value (sym c.form_cmp.ensures ∙ is_lt_Less c.form_cmp.result (sym c.is_lt.ensures ∙ c.if-is_lt.true)))

pub returns-else-is_lt : goal.returns-else-is_lt
returns-else-is_lt c = c.count_cmp-else-is_lt.ensures ∙ sym (left_higher (literal_compare c.args.order.now) (forms_total c.args.order.now) c.args.c.now c.args.d.now c.in-Some-Some.l.now c.in-Some-Some.m.now
    c.in-Some-Some.ensures.value c.in-Some-Some.ensures'.value (λ e. not_lt_Less c.form_cmp.result (sym c.is_lt.ensures ∙ c.if-is_lt.false) (c.form_cmp.ensures ∙ e)))
