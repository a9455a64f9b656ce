-- The derivation of a peer that is refuted.
use Rattle.std.proofs.Common.{◌≡◌, List, [], ◌∷◌, refl, ap, ◌∙◌, subst}
use Rattle.std.specs.Prelude.{Option, Some, true}
use Rattle.cd_ledger.specs.declared.records.Known.{Known}
use Rattle.cd_ledger.specs.declared.events.Verdict.{Verdict}
use Rattle.cd_ledger.specs.declared.events.Verdict.TheVariants.{Refuted}
use Rattle.cd_ledger.specs.declared.local.Local.{Local}
use Rattle.std.specs.List.{AllByRecursion as Each}
use Rattle.cd_read.specs.declared.problem.Problem.{Problem}
use Rattle.cd_machine.specs.Rules.{is_empty}
use Rattle.cd_ledger.specs.Records.{GoesOnBehindCopy}
use Rattle.cd_laws.specs.Premises.{Premises}
use Rattle.cd_laws.specs.Rooted.{AreLed}
use Rattle.cd_laws.proofs.Lists.{Each_right, Each_weaker}
use Rattle.cd_alone.specs.Alone.{Emptiness, EndsEmpty}
use Rattle.cd_alone.specs.Derived.{AloneRunsRefute, AreLines, IsRefutation, Line, ancestors}
use Rattle.cd_alone.specs.Going.{Going, IsSensible}
use Rattle.cd_alone.proofs.Runs.{going_run}
use Rattle.cd_alone.proofs.Choosing.{ancestors_end, ancestors_led}
use Rattle.cd_alone.proofs.Lines.{ends_weaker, lines_end, lines_exist, lines_right}
use Rattle.cd_kbo.specs.declared.order.Order.{Order}

module _ (order : Order) (q : Premises order) (p : Problem) (s : Local) (g : Going order p s) (v : s.verdict ≡ Some Refuted) where
  pub empty : EndsEmpty s.known
  empty = subst (λ (u : Option Verdict). Emptiness u s.known) v g.emptiness

  pub led : AreLed p [] (ancestors s.known)
  led = ancestors_led order q p s.known empty g.led.led

  last_goes : GoesOnBehindCopy empty.last.entry.steps
  last_goes = (Each_right (λ e. GoesOnBehindCopy e.entry.steps) empty.front (empty.last ∷ [])
      (subst (Each (λ e. GoesOnBehindCopy e.entry.steps)) empty.split (Each_weaker (IsSensible p) (λ e. GoesOnBehindCopy e.entry.steps) (λ e h. h.2) s.known g.led.right))).0

  pub refutes : (lines : List Line) → AreLines p [] [] 0 (ancestors s.known) lines → IsRefutation p lines
  refutes lines h =
      let x = ancestors_end s.known empty in
      record {
        right = lines_right order q p [] [] 0 (ancestors s.known) [] lines led refl tt tt h;
        end = ends_weaker (λ d. d ≡ empty.last.entry.clause) (λ d. is_empty d ≡ true) (λ d e. ap is_empty e ∙ empty.empty) lines
            (lines_end order q p [] [] 0 x.0 empty.last lines (subst (AreLed p []) x.1 led) last_goes (subst (λ (es : List Known). AreLines p [] [] 0 es lines) x.1 h));
      }

pub alone_refutes : (order : Order) → AloneRunsRefute order
alone_refutes order q p start s events r v =
    let g = going_run order q p start s events r in
    (lines_exist order q p [] [] 0 (ancestors s.known) (led order q p s g v), refutes order q p s g v)
