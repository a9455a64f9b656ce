use Rattle.std.proofs.Common.{◌≡◌, ◌+◌, ◌^◌, List, ℕ, length, ap, ◌∙◌, refl, arith}
use Rattle.cd_meaning.specs.Interps.{interp_of, point_of, IsTrueAt, rank}
use Rattle.cd_meaning.proofs.Ranks.{first_tried, one_tried, all_tried, rank_below}
use Rattle.cd_meaning.proofs.Holding.{holds_by}
use Rattle.cd_meaning.proofs.holds_from.Goals as goal

pub points-init : goal.points-init
points-init c = record {
  same = refl;
  elements = λ k. omega (arith, c.requires.first k, c.requires.some);
  tried = first_tried (λ (q : List ℕ). IsTrueAt (interp_of c.args.size c.args.tables.now) c.as_slice-literals.result.now (point_of q)) c.args.size (length c.args.point.now) c.args.point.now c.requires.first;
}

pub points-preserved : goal.points-preserved
points-preserved c = record {
  same = omega (arith, c.next_point.ensures.same, c.points.invariant.same);
  elements = c.next_point.ensures.elements;
  tried = one_tried (λ (q : List ℕ). IsTrueAt (interp_of c.args.size c.args.tables.now) c.as_slice-literals.result.now (point_of q)) c.args.size (length c.args.point.now) c.points.point
      (rank c.args.size c.next_point.new.point) c.points.invariant.same c.points.invariant.elements (c.if-not-is_true.ensures.0 refl) (c.if-not-next_point.ensures.more refl) c.points.invariant.tried;
}

pub points-smaller : goal.points-smaller
points-smaller c =
    let same : c.args.size ^ length c.next_point.new.point ≡ c.args.size ^ length c.points.point = ap (λ n. c.args.size ^ n) c.next_point.ensures.same in
    omega (arith, same, rank_below c.args.size c.points.point c.requires.some c.points.invariant.elements, c.if-not-next_point.ensures.more refl)

pub returns-then-not-next_point : goal.returns-then-not-next_point
returns-then-not-next_point c =
    let i = interp_of c.args.size c.args.tables.now in
    let ls = c.as_slice-literals.result.now in
    let P = λ (q : List ℕ). IsTrueAt i ls (point_of q) in
    let long = length c.args.point.now in
    let power : rank c.args.size c.points.point + 1 ≡ c.args.size ^ long = c.if-not-next_point.ensures.last refl ∙ ap (λ n. c.args.size ^ n) c.points.invariant.same in
    let all = one_tried P c.args.size long c.points.point (rank c.args.size c.points.point + 1) c.points.invariant.same c.points.invariant.elements (c.if-not-is_true.ensures.0 refl) refl c.points.invariant.tried in (
      (λ _. holds_by i c.args.c.now ls long c.as_slice-literals.ensures c.requires.room (λ p each. all_tried P c.args.size long (rank c.args.size c.points.point + 1) c.requires.some power all p each)),
      (λ _. refl),
    )
