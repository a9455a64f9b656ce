-- The inferences of usable clauses have few variables.
use Rattle.std.proofs.Common.{◌≡◌, ℕ, ◌+◌, List, ap, arith}
use Rattle.cd_clause.specs.declared.Clause.{Clause}
use Rattle.cd_clause.specs.Clauses.{variable_bound_of}
use Rattle.cd_steps.specs.declared.drafts.Draft.{Draft}
use Rattle.cd_steps.specs.Rules.{Inference, both_bounds, IsResolution, IsFactoring, IsReflexivity, IsEqualityFactoring, IsParamodulation}
use Rattle.cd_steps.specs.Drafts.{inference_of, IsBelow}
use Rattle.cd_infer.specs.Concluding.{IsBounded}
use Rattle.cd_infer.specs.Conclusions.{IsPairable, IsUsable}

both_few : (a b : Clause) (d : Draft) → IsPairable a b → d.up + d.more ≡ both_bounds a b → IsBelow (d.up + d.more) d.more d → IsBounded d
both_few a b d p count below = record { few = omega (arith, count, p.first.few, p.second.few); below = below }

one_few : (c : Clause) (d : Draft) → IsUsable c → d.up + d.more ≡ variable_bound_of c → IsBelow (d.up + d.more) d.more d → IsBounded d
one_few c d u count below = record { few = omega (arith, count, u.few); below = below }

pub resolution_bounded : (a b : Clause) (i j : ℕ) (d : Draft) → IsPairable a b → IsResolution a i b j (inference_of d) → IsBelow (d.up + d.more) d.more d → IsBounded d
resolution_bounded a b i j d p r below = both_few a b d p (ap (λ (x : Inference). x.variables) r.is) below

pub paramodulation_bounded : (a b : Clause) (i s j : ℕ) (path : List ℕ) (d : Draft) → IsPairable a b → IsParamodulation a i s b j path (inference_of d) →
    IsBelow (d.up + d.more) d.more d → IsBounded d
paramodulation_bounded a b i s j path d p r below = both_few a b d p (ap (λ (x : Inference). x.variables) r.is) below

pub factoring_bounded : (c : Clause) (i j : ℕ) (d : Draft) → IsUsable c → IsFactoring c i j (inference_of d) → IsBelow (d.up + d.more) d.more d → IsBounded d
factoring_bounded c i j d u r below = one_few c d u (ap (λ (x : Inference). x.variables) r.is) below

pub reflexivity_bounded : (c : Clause) (i : ℕ) (d : Draft) → IsUsable c → IsReflexivity c i (inference_of d) → IsBelow (d.up + d.more) d.more d → IsBounded d
reflexivity_bounded c i d u r below = one_few c d u (ap (λ (x : Inference). x.variables) r.is) below

pub equality_factoring_bounded : (c : Clause) (i s j z : ℕ) (d : Draft) → IsUsable c → IsEqualityFactoring c i s j z (inference_of d) →
    IsBelow (d.up + d.more) d.more d → IsBounded d
equality_factoring_bounded c i s j z d u r below = one_few c d u (ap (λ (x : Inference). x.variables) r.is) below
