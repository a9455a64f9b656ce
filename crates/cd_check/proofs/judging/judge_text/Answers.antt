use Rattle.std.proofs.Common.{◌≡◌, ℕ, ◌+◌, ◌<◌, ◌≤◌, ◌++◌, ◌∷◌, [], List, length, take, drop, refl, ap, sym, ◌∙◌, subst, true, false, rules, arith, length-append}
use Rattle.cd_clause.specs.declared.Clause.{Clause}
use Rattle.cd_check.specs.declared.judging.Judgement.TheVariants.{Right, Wrong}
use Rattle.cd_check.specs.declared.verdict.Verdict.TheVariants.{Refused}
use Rattle.cd_check.specs.Accepted.{is_taken}
use Rattle.cd_check.specs.Judged.{JudgesPiece, feed_at, skipped}
use Rattle.cd_check.proofs.Pieces.{IsCut, shorter, judged_pass, judged_right, judged_wrong}
use Rattle.cd_check.proofs.judging.judge_text.Goals as goal
use Rattle.cd_check.proofs.judging.judge_text.Goals.{then-is_taken+in_ok-why+in-Right+in_ok-push-in-Right, else-is_taken}

pub returns-in-Wrong : goal.returns-in-Wrong
returns-in-Wrong c =
    let p = c.args.problem.now in
    let rest = c.loop-rest.rest.now in
    let piece = c.split_at.result.0.now in
    let after = skipped (drop (feed_at rest) rest) in
    let cut : IsCut rest piece after = record { some = search rules; piece_is = c.split_at.ensures.front ∙ ap (λ (n : ℕ). take n rest) c.feed_at.ensures.place; after_is = refl } in
    let taken : is_taken piece ≡ true = sym c.is_taken.ensures ∙ c.if-is_taken.true in
    let found : JudgesPiece p c.as_slice.result.now piece (Wrong c.in-Wrong.why) = subst (JudgesPiece p c.as_slice.result.now piece) c.in-Wrong.is c.in_ok-why.ensures in
    let here : JudgesPiece p c.loop-rest.clauses piece (Wrong c.in-Wrong.why) = subst (λ (cs : List Clause). JudgesPiece p cs piece (Wrong c.in-Wrong.why)) c.as_slice.ensures found in
    c.loop-rest.invariant.judged (Refused (c.loop-rest.line + 1) c.in-Wrong.why) (judged_wrong p c.loop-rest.clauses c.loop-rest.line rest piece after c.in-Wrong.why cut taken here)

pub loop-rest-preserved : goal.loop-rest-preserved
loop-rest-preserved c =
    let p = c.args.problem.now in
    let rest = c.loop-rest.rest.now in
    let piece = c.split_at.result.0.now in
    let after = c.skip_feed-rest.result.now in
    let cut : IsCut rest piece after = record {
      some = search rules;
      piece_is = c.split_at.ensures.front ∙ ap (λ (n : ℕ). take n rest) c.feed_at.ensures.place;
      after_is = c.skip_feed-rest.ensures ∙ ap skipped (c.split_at.ensures.back ∙ ap (λ (n : ℕ). drop n rest) c.feed_at.ensures.place);
    } in
    let less : length after + 1 ≤ length rest = shorter rest piece after cut in
    let size : c.loop-rest.line + 1 + length after ≤ length c.args.text.now = omega (arith, less, c.loop-rest.invariant.size) in
    elim c.if-is_taken.branch [
      | then-is_taken+in_ok-why+in-Right+in_ok-push-in-Right w ↦
          let taken : is_taken piece ≡ true = sym c.is_taken.ensures ∙ w.if-is_taken.true in
          let found : JudgesPiece p w.as_slice.result.now piece (Right w.in-Right.clause) = subst (JudgesPiece p w.as_slice.result.now piece) w.in-Right.is w.in_ok-why.ensures in
          let here : JudgesPiece p c.loop-rest.clauses piece (Right w.in-Right.clause) = subst (λ (cs : List Clause). JudgesPiece p cs piece (Right w.in-Right.clause)) w.as_slice.ensures found in
          let more : c.if-is_taken.clauses ≡ c.loop-rest.clauses ++ w.in-Right.clause ∷ [] = w.clauses-is ∙ w.in_ok-push-in-Right.ensures.ok in
          rw more (record {
            judged = λ v j. c.loop-rest.invariant.judged v (judged_right p c.loop-rest.clauses c.loop-rest.line rest piece after w.in-Right.clause v cut taken here j);
            size = size;
            few = omega (arith, c.loop-rest.invariant.few, length-append c.loop-rest.clauses (w.in-Right.clause ∷ []));
          })
      | else-is_taken w ↦
          let none : is_taken piece ≡ false = sym c.is_taken.ensures ∙ w.if-is_taken.false in
          rw w.clauses-is (record {
            judged = λ v j. c.loop-rest.invariant.judged v (judged_pass p c.loop-rest.clauses c.loop-rest.line rest piece after v cut none j);
            size = size;
            few = omega (arith, c.loop-rest.invariant.few);
          })
    ]
