-- A reduct is what the rewriting step gives, and both are fit.
use Rattle.std.proofs.Common.{◌≡◌, ℕ, List, [], ◌∷◌, refl, ap}
use Rattle.std.specs.Prelude.{Option, Some}
use Rattle.cd_term.specs.declared.Term.{Term}
use Rattle.cd_clause.specs.declared.Clause.{Clause}
use Rattle.cd_names.specs.declared.names.Name.{Name}
use Rattle.cd_kbo.specs.declared.order.Order.{Order}
use Rattle.cd_read.specs.declared.problem.Problem.{Problem}
use Rattle.cd_rewrite.specs.Reduction.{IsReduct}
use Rattle.cd_rewrite.specs.Laws.{IsRewritten}
use Rattle.cd_rewrite.specs.Laws as rewriting
use Rattle.cd_rewrite.proofs.Fitting.{reducts_are_steps, reducts_are_fit}
use Rattle.cd_steps.specs.declared.Step.TheVariants as step
use Rattle.cd_steps.specs.Laws.{Rewrites}
use Rattle.cd_steps.proofs.Reversing.{rewritings_are_in_place}
use Rattle.cd_ledger.specs.declared.records.Record.{Record}
use Rattle.cd_ledger.specs.Records.{Registry}
use Rattle.cd_machine.specs.Rules.{symbols_of, IsTidied, ReductAt, IsWithin, IsFit}
use Rattle.cd_machine.specs.Right.{IsReplayed}
use Rattle.cd_premises.proofs.Steps.{at_record}

in_place : (e c : Clause) (s j : ℕ) (path : List ℕ) (t : List Term) (d : Clause) (order : Order) → IsReduct order e c (record { literal = j; path = path; side = s }) t d → Rewrites e s c j path t d
in_place e c s j path t d order r =
    let w = reducts_are_steps order e c d (record { literal = j; path = path; side = s }) t r in
    record {
      equation = w.rule.equation;
      side = w.from;
      other = w.to;
      taker = w.taker;
      changed = w.changed;
      one = w.rule.one;
      sides = w.rule.sides;
      covers = r.covers;
      literal = w.literal;
      there = w.there;
      becomes = w.becomes;
      rest = w.rest;
    }

fit_over : (p : Problem) (c : Clause) → IsFit p c → IsTidied c c → rewriting.IsFit (symbols_of p) c
unfolding IsTidied
fit_over p c fit tidy = record { tidy = tidy; within = fit.within; over = fit.over }

pub replay_rewrite : (order : Order) (p : Problem) (R : Registry) (n : Name) (e : Record) (c : Clause) (s j : ℕ) (path : List ℕ) (t : List Term) (d : Clause)
    → R n ≡ Some e → IsFit p e.clause → IsTidied e.clause e.clause → IsFit p c → IsTidied c c → ReductAt order e.clause c s j path t d → IsWithin d
    → IsReplayed p R (Some c) (step.Rewrite n s j path t) d × IsFit p d
unfolding ReductAt IsWithin
replay_rewrite order p R n e c s j path t d g fit_e tidy_e fit_c tidy_c r within =
    let f = reducts_are_fit order (symbols_of p) e.clause c d (record { literal = j; path = path; side = s }) t (fit_over p e.clause fit_e tidy_e) (fit_over p c fit_c tidy_c) r in
    let fit : IsFit p d = record { within = within; over = f.1 } in (
      record {
        right = record {
          clauses = c ∷ e.clause ∷ [];
          are = ap (λ (o : Option Clause). Some c ∷ o ∷ []) (at_record R n e g);
          right = (refl, (rewritings_are_in_place e.clause s c j path t d).1 (in_place e.clause c s j path t d order r));
        };
        fit = fit;
        subst = record { within = (f.0.within, f.0.few); over = f.0.over };
      },
      fit,
    )
