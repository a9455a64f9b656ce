use Rattle.std.proofs.Common.{None, arith, sym, ◌∙◌}
use Rattle.std.specs.Option.{option_copied}
use Rattle.std.proofs.lemmas.List.{length-map, length-set, map-set, set_past}
use Rattle.cd_term.specs.declared.Term.{Term}
use Rattle.cd_unify.specs.Bindings.{values_in}
use Rattle.cd_unify.proofs.Trails.{last_back, last_kept}
use Rattle.cd_unify.proofs.bindings.Bindings.undo.Goals as goal

pub loop-self-preserved-then-place-len : goal.loop-self-preserved-then-place-len
loop-self-preserved-then-place-len c = record {
  covers = length-set c.loop-self.self.values.items c.in-Some.k None ∙ c.loop-self.invariant.covers;
  back = sym (last_back _ (values_in c.loop-self.self) _ _ c.in-Some.k _ c.in-Some.ensures.items (omega arith)
      (map-set option_copied c.loop-self.self.values.items c.in-Some.k None)) ∙ c.loop-self.invariant.back;
  front = last_kept _ _ c.in-Some.k _ c.in-Some.ensures.items (omega arith) ∙ c.loop-self.invariant.front;
}

pub loop-self-preserved-else-place-len : goal.loop-self-preserved-else-place-len
loop-self-preserved-else-place-len c = record {
  covers = c.loop-self.invariant.covers;
  back = sym (last_back _ (values_in c.loop-self.self) _ _ c.in-Some.k _ c.in-Some.ensures.items (omega arith)
      (sym (set_past (values_in c.loop-self.self) c.in-Some.k None
      (omega (arith, length-map c.loop-self.self.values.items (option_copied {T = Term})))))) ∙ c.loop-self.invariant.back;
  front = last_kept _ _ c.in-Some.k _ c.in-Some.ensures.items (omega arith) ∙ c.loop-self.invariant.front;
}
