-- Columns that stand in step.
use Rattle.std.proofs.Common.{◌<◌, ◌≤◌, ◌+◌, take, get_or, ap, ◌∙◌, ◌≡◌, ℕ, zero, suc, List, [], ◌∷◌, ◌++◌, length, remove, subst, refl, sym, arith}
use Rattle.std.proofs.lemmas.List.{take_more, take_all}
use Rattle.cd_clause.specs.declared.Clause.{Clause}
use Rattle.cd_clause.specs.Clauses.{IsWithinBounds}
use Rattle.cd_names.specs.declared.names.Name.{Name}
use Rattle.cd_kbo.specs.declared.order.Order.{Order}
use Rattle.cd_contract.specs.declared.held.Kept.{Kept}
use Rattle.cd_contract.specs.declared.held.Entry.{Entry}
use Rattle.cd_contract.specs.declared.rows.Row.{Row}
use Rattle.cd_contract.specs.declared.needs.Needs.{Needs}
use Rattle.cd_contract.specs.declared.marks.Brief.{Brief}
use Rattle.cd_contract.specs.Rows.{IsRow, IsKept, AreKept, entries_of}
use Rattle.cd_contract.specs.Marks.{BrieflyMarked, IsSought}
use Rattle.cd_contract.specs.Needs.{IsNeeds, AreInStep, HasNeeds, HasMarks, AreColumns}

pub step_length : {B : Type 0} (R : Entry → B → Type 0) (ks : List Kept) (ys : List B) → AreInStep R (entries_of ks) ys → length ks ≡ length ys
step_length R [] [] s = refl
step_length R [] (y ∷ ys) s = absurd s
step_length R (k ∷ ks) [] s = absurd s
step_length R (k ∷ ks) (y ∷ ys) s = omega (arith, step_length R ks ys s.1)

pub step_at : {B : Type 0} (R : Entry → B → Type 0) (ks : List Kept) (ys : List B) (i : ℕ) (k : Kept) (y : B) → AreInStep R (entries_of ks) ys → i < length ys →
    R (get_or ks i k).entry (get_or ys i y)
step_at R [] [] i k y s lt = absurd (omega (arith, lt))
step_at R [] (x ∷ ys) i k y s lt = absurd s
step_at R (j ∷ ks) [] i k y s lt = absurd s
step_at R (j ∷ ks) (x ∷ ys) zero k y s lt = s.0
step_at R (j ∷ ks) (x ∷ ys) (suc i) k y s lt = step_at R ks ys i k y s.1 (omega (arith, lt))

pub step_read : {B : Type 0} (R : Entry → B → Type 0) (ks : List Kept) (ys : List B) (i : ℕ) (k : Kept) (y : B) → AreInStep R (entries_of ks) ys → i < length ys →
    k ≡ get_or ks i k → y ≡ get_or ys i y → R k.entry y
step_read R ks ys i k y s lt here there =
    subst (λ z. R k.entry z) (sym there) (subst (λ (z : Kept). R z.entry (get_or ys i y)) (sym here) (step_at R ks ys i k y s lt))

pub step_more : {B : Type 0} (R : Entry → B → Type 0) (ks : List Kept) (ys : List B) (k : Kept) (y : B) → AreInStep R (entries_of ks) ys → R k.entry y →
    AreInStep R (entries_of (ks ++ k ∷ [])) (ys ++ y ∷ [])
step_more R [] [] k y s new = (new, tt)
step_more R [] (x ∷ ys) k y s new = absurd s
step_more R (j ∷ ks) [] k y s new = absurd s
step_more R (j ∷ ks) (x ∷ ys) k y s new = (s.0, step_more R ks ys k y s.1 new)

pub step_less : {B : Type 0} (R : Entry → B → Type 0) (ks : List Kept) (ys : List B) (i : ℕ) → AreInStep R (entries_of ks) ys →
    AreInStep R (entries_of (remove ks i)) (remove ys i)
step_less R [] [] zero s = tt
step_less R [] [] (suc i) s = tt
step_less R [] (y ∷ ys) i s = absurd s
step_less R (k ∷ ks) [] i s = absurd s
step_less R (k ∷ ks) (y ∷ ys) zero s = s.1
step_less R (k ∷ ks) (y ∷ ys) (suc i) s = (s.0, step_less R ks ys i s.1)

pub kept_more : (ks : List Kept) (k : Kept) → AreKept ks → IsKept k → AreKept (ks ++ k ∷ [])
kept_more [] k all new = (new, tt)
kept_more (j ∷ ks) k all new = (all.0, kept_more ks k all.1 new)

pub kept_less : (ks : List Kept) (i : ℕ) → AreKept ks → AreKept (remove ks i)
kept_less [] zero all = tt
kept_less [] (suc i) all = tt
kept_less (k ∷ ks) zero all = all.1
kept_less (k ∷ ks) (suc i) all = (all.0, kept_less ks i all.1)

pub columns_more : (o : Order) (ks ls : List Kept) (ns bs : List Needs) (ms ds : List Brief) (d c : Clause) (name : Name) (row : Row) (n : Needs) (m : Brief) → AreColumns o ks ns ms →
    ls ≡ ks ++ record { entry = record { name = name; clause = d }; row = row } ∷ [] → bs ≡ ns ++ n ∷ [] → ds ≡ ms ++ m ∷ [] → d ≡ c → IsWithinBounds c → IsRow c row → IsNeeds o c n →
    IsSought c.literals (BrieflyMarked m) → AreColumns o ls bs ds
columns_more o ks ls ns bs ms ds d c name row n m are more needed marked same within counts needs sought =
    subst (λ x. AreColumns o x bs ds) (sym more) (subst (λ y. AreColumns o (ks ++ new ∷ []) y ds) (sym needed) (subst (AreColumns o (ks ++ new ∷ []) (ns ++ n ∷ [])) (sym marked) (record {
      kept = kept_more ks new are.kept (record {
        within = subst IsWithinBounds (sym same) within;
        row = subst (λ x. IsRow x row) (sym same) counts;
      });
      needs = step_more (HasNeeds o) ks ns new n are.needs (subst (λ x. IsNeeds o x n) (sym same) needs);
      marks = step_more HasMarks ks ms new m are.marks (subst (λ (x : Clause). IsSought x.literals (BrieflyMarked m)) (sym same) sought);
    })))
  where
    new : Kept
    new = record { entry = record { name = name; clause = d }; row = row }

pub columns_less : (o : Order) (ks ls : List Kept) (ns bs : List Needs) (ms ds : List Brief) (i : ℕ) → AreColumns o ks ns ms → ls ≡ remove ks i → bs ≡ remove ns i → ds ≡ remove ms i →
    AreColumns o ls bs ds
columns_less o ks ls ns bs ms ds i are less needed marked =
    subst (λ x. AreColumns o x bs ds) (sym less) (subst (λ y. AreColumns o (remove ks i) y ds) (sym needed) (subst (AreColumns o (remove ks i) (remove ns i)) (sym marked) (record {
      kept = kept_less ks i are.kept;
      needs = step_less (HasNeeds o) ks ns i are.needs;
      marks = step_less HasMarks ks ms i are.marks;
    })))

pub needs_next : (o : Order) (ks : List Kept) (i : ℕ) (k : Kept) (ns bs : List Needs) (n : Needs) → i < length ks → k ≡ get_or ks i k → bs ≡ ns ++ n ∷ [] →
    AreInStep (HasNeeds o) (entries_of (take i ks)) ns → HasNeeds o k.entry n → AreInStep (HasNeeds o) (entries_of (take (i + 1) ks)) bs
needs_next o ks i k ns bs n lt at more so_far here =
    subst (λ xs. AreInStep (HasNeeds o) (entries_of xs) bs) (sym (take_more ks i k lt ∙ ap (λ x. take i ks ++ x ∷ []) (sym at)))
    (subst (AreInStep (HasNeeds o) (entries_of (take i ks ++ k ∷ []))) (sym more) (step_more (HasNeeds o) (take i ks) ns k n so_far here))

pub needs_all : (o : Order) (ks : List Kept) (i : ℕ) (ns : List Needs) → length ks ≤ i → AreInStep (HasNeeds o) (entries_of (take i ks)) ns →
    AreInStep (HasNeeds o) (entries_of ks) ns
needs_all o ks i ns le are = subst (λ xs. AreInStep (HasNeeds o) (entries_of xs) ns) (take_all i ks le) are
