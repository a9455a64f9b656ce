-- The longest texts of forms that are made of forms.
use Rattle.std.proofs.Common.{Option, Some, None, MatchOption, ◌≡◌, ◌∙◌, ◌+◌, ◌<◌, ◌≤◌, ◌++◌, ◌∷◌, [], ℕ, Bool, true, false, length, drop, get_or, refl, sym, ap, subst, arith, inl, inr, true≢false, append_assoc, length-append}
use Rattle.cd_lex.specs.Bytes.{Bytes}
use Rattle.cd_lex.specs.Scans.{Ends}
use Rattle.cd_lex.specs.Tokens.{Then, Optional, One, IsLongest, BeginsNo}
use Rattle.cd_lex.proofs.PlaceLemmas.{from_place, past_end, behind, goes_on}

-- no text of the form Q begins with a byte by which a text of the form P goes on
pub record Joins (P Q : Bytes → Type 0) : Type 0 where
  pub no : (front more back : Bytes) (b : ℕ) → P front → P (front ++ b ∷ more) → Q (b ∷ back) → ⊥

module _ (P Q : Bytes → Type 0) (joins : Joins P Q) where
  bound : (p q rest front back after : Bytes) → IsLongest P p (p ++ (q ++ rest)) → IsLongest Q q (q ++ rest) → P front → Q back
      → p ++ (q ++ rest) ≡ front ++ (back ++ after) → length front + length back ≤ length p + length q
  bound p q rest front back after first second is_front is_back e =
      let le : length front ≤ length p = first.longest front (back ++ after) is_front e in
      let r = goes_on front p (back ++ after) (q ++ rest) e le in
      by r.more back r.front r.back is_back le
    where
      by : (more back : Bytes) → p ≡ front ++ more → back ++ after ≡ more ++ (q ++ rest) → Q back → length front ≤ length p → length front + length back ≤ length p + length q
      by [] back same tails is le = let n : length back ≤ length q = second.longest back after is (sym tails) in omega arith
      by (b ∷ more) [] same tails is le = omega arith
      by (b ∷ more) (c ∷ back) same tails is le =
          let eq : b ≡ c = cc in
          absurd (joins.no front more back b is_front (subst P same first.is) (subst (λ (x : ℕ). Q (x ∷ back)) (sym eq) is))

  pub then_longest : (p q bytes rest : Bytes) → IsLongest P p bytes → bytes ≡ p ++ rest → IsLongest Q q rest → IsLongest (Then P Q) (p ++ q) bytes
  then_longest p q bytes rest first split second =
      let whole : bytes ≡ p ++ (q ++ second.rest) = split ∙ ap (λ (l : Bytes). p ++ l) second.split in
      let first' : IsLongest P p (p ++ (q ++ second.rest)) = subst (IsLongest P p) whole first in
      let second' : IsLongest Q q (q ++ second.rest) = subst (IsLongest Q q) second.split second in
      record {
        rest = second.rest;
        split = whole ∙ sym (append_assoc p q second.rest);
        is = (p, q, first.is, second.is, refl);
        longest = λ other after is e. fits other after is (sym whole ∙ e) first' second';
      }
    where
      fits : (other after : Bytes) → Then P Q other → p ++ (q ++ second.rest) ≡ other ++ after → IsLongest P p (p ++ (q ++ second.rest)) → IsLongest Q q (q ++ second.rest)
          → length other ≤ length (p ++ q)
      fits other after (front, back, is_front, is_back, e) whole f s =
          let h = bound p q second.rest front back after f s is_front is_back (whole ∙ ap (λ (l : Bytes). l ++ after) e ∙ append_assoc front back after) in
          let n : length other ≡ length front + length back = ap length e ∙ length-append front back in
          let m : length (p ++ q) ≡ length p + length q = length-append p q in
          omega arith

  -- the same by places
  pub then_ends : (bytes : Bytes) (from mid end : ℕ) → Ends P (drop from bytes) from mid → Ends Q (drop mid bytes) mid end → Ends (Then P Q) (drop from bytes) from end
  then_ends bytes from mid end a b =
      let rest : drop mid bytes ≡ a.longest.rest = behind bytes from mid a.text a.longest.rest a.longest.split a.place in
      let n : length (a.text ++ b.text) ≡ length a.text + length b.text = length-append a.text b.text in
      record {
        text = a.text ++ b.text;
        longest = then_longest a.text b.text (drop from bytes) a.longest.rest a.longest a.longest.split (subst (IsLongest Q b.text) rest b.longest);
        place = omega (arith, a.place, b.place);
      }

-- a text of the form is more than none
pub optional_some : (P : Bytes → Type 0) (bytes : Bytes) (from end : ℕ) → Ends P bytes from end → Ends (Optional P) bytes from end
optional_some P bytes from end r = record {
  text = r.text;
  longest = record { rest = r.longest.rest; split = r.longest.split; is = inr r.longest.is; longest = λ other after is e. by other after is e };
  place = r.place;
}
  where
    by : (other after : Bytes) → Optional P other → bytes ≡ other ++ after → length other ≤ length r.text
    by other after (inl none) e = omega (arith, ap length none)
    by other after (inr is) e = r.longest.longest other after is e

pub optional_none : (P : Bytes → Type 0) (bytes : Bytes) (from : ℕ) → BeginsNo P bytes → Ends (Optional P) bytes from from
optional_none P bytes from none = record {
  text = [];
  longest = record { rest = bytes; split = refl; is = inl refl; longest = λ other after is e. by other after is e };
  place = omega arith;
}
  where
    by : (other after : Bytes) → Optional P other → bytes ≡ other ++ after → length other ≤ 0
    by other after (inl e') e = omega (arith, ap length e')
    by other after (inr is) e = absurd (none.no other after is e)

-- one byte
pub one_ends : (test : ℕ → Bool) (bytes : Bytes) (at : ℕ) → at < length bytes → test (get_or bytes at 0) ≡ true → Ends (One test) (drop at bytes) at (at + 1)
one_ends test bytes at lt passes = record {
  text = get_or bytes at 0 ∷ [];
  longest = record {
    rest = drop (at + 1) bytes;
    split = from_place bytes at lt;
    is = (get_or bytes at 0, passes, refl);
    longest = λ other after is e. omega (arith, ap length is.2);
  };
  place = omega arith;
}

-- no byte that passes stands there
pub no_one : (test : ℕ → Bool) (bytes : Bytes) (at : ℕ) → at < length bytes → test (get_or bytes at 0) ≡ false → BeginsNo (One test) (drop at bytes)
no_one test bytes at lt fails = record { no = λ text rest is e. by text rest is (sym (from_place bytes at lt) ∙ e) }
  where
    by : (text rest : Bytes) → One test text → get_or bytes at 0 ∷ drop (at + 1) bytes ≡ text ++ rest → ⊥
    by text rest (b, passes, one) e =
        let whole : get_or bytes at 0 ∷ drop (at + 1) bytes ≡ b ∷ rest = e ∙ ap (λ (l : Bytes). l ++ rest) one in
        let same : get_or bytes at 0 ≡ b = cc in
        true≢false (sym passes ∙ ap test (sym same) ∙ fails)

pub no_one_end : (test : ℕ → Bool) (bytes : Bytes) (at : ℕ) → length bytes ≤ at → BeginsNo (One test) (drop at bytes)
no_one_end test bytes at past = record { no = λ text rest is e. by text rest is (sym (past_end bytes at past) ∙ e) }
  where
    by : (text rest : Bytes) → One test text → [] ≡ text ++ rest → ⊥
    by text rest (b, passes, one) e =
        let whole : [] ≡ b ∷ rest = e ∙ ap (λ (l : Bytes). l ++ rest) one in
        cc

-- where no P begins, no P with more behind it does
pub no_then : (P Q : Bytes → Type 0) (bytes : Bytes) → BeginsNo P bytes → BeginsNo (Then P Q) bytes
no_then P Q bytes none = record { no = λ text rest is e. by text rest is e }
  where
    by : (text rest : Bytes) → Then P Q text → bytes ≡ text ++ rest → ⊥
    by text rest (front, back, is_front, is_back, same) e =
        none.no front (back ++ rest) is_front (e ∙ ap (λ (l : Bytes). l ++ rest) same ∙ append_assoc front back rest)

-- where no Q stands behind the one byte, none does behind a byte that passes
pub no_behind_one : (test : ℕ → Bool) (Q : Bytes → Type 0) (bytes : Bytes) (at : ℕ) → at < length bytes → BeginsNo Q (drop (at + 1) bytes) → BeginsNo (Then (One test) Q) (drop at bytes)
no_behind_one test Q bytes at lt none = record { no = λ text rest is e. by text rest is (sym (from_place bytes at lt) ∙ e) }
  where
    by : (text rest : Bytes) → Then (One test) Q text → get_or bytes at 0 ∷ drop (at + 1) bytes ≡ text ++ rest → ⊥
    by text rest (front, back, (b, passes, one), is_back, same) e =
        let whole : get_or bytes at 0 ∷ drop (at + 1) bytes ≡ b ∷ (back ++ rest)
        = e ∙ ap (λ (l : Bytes). l ++ rest) same ∙ append_assoc front back rest ∙ ap (λ (l : Bytes). l ++ (back ++ rest)) one in
        let tails : drop (at + 1) bytes ≡ back ++ rest = cc in
        none.no back rest is_back tails

-- a byte goes before any form
pub one_joins : (test : ℕ → Bool) (Q : Bytes → Type 0) → Joins (One test) Q
one_joins test Q = record { no = λ front more back b is longer q. omega (arith, ap length is.2, ap length longer.2, length-append front (b ∷ more)) }

-- a text's first byte
pub record First (text : Bytes) (test : ℕ → Bool) : Type 0 where
  pub byte : ℕ
  pub rest : Bytes
  pub is : text ≡ byte ∷ rest
  pub passes : test byte ≡ true

pub first_then : (test : ℕ → Bool) (Q : Bytes → Type 0) (text : Bytes) → Then (One test) Q text → First text test
first_then test Q text (front, back, (b, passes, one), is, e) = record { byte = b; rest = back; is = e ∙ ap (λ (l : Bytes). l ++ back) one; passes = passes }

pub first_passes : (test : ℕ → Bool) (b : ℕ) (text : Bytes) → First (b ∷ text) test → test b ≡ true
first_passes test b text r = let e : b ∷ text ≡ r.byte ∷ r.rest = r.is in let same : b ≡ r.byte = cc in ap test same ∙ r.passes

-- a text of Q that begins with no byte that passes
pub record Apart (test : ℕ → Bool) (Q : Bytes → Type 0) : Type 0 where
  pub some : Q [] → ⊥
  pub first : (b : ℕ) (text : Bytes) → Q (b ∷ text) → test b ≡ true → ⊥

no_optional_then : (P Q : Bytes → Type 0) (bytes : Bytes) → BeginsNo Q bytes → BeginsNo (Then P Q) bytes → BeginsNo (Then (Optional P) Q) bytes
no_optional_then P Q bytes none none' = record { no = λ text rest is e. by text rest is e }
  where
    by : (text rest : Bytes) → Then (Optional P) Q text → bytes ≡ text ++ rest → ⊥
    by text rest (front, back, inl empty, is, same) e = none.no back rest is (e ∙ ap (λ (l : Bytes). l ++ rest) (same ∙ ap (λ (l : Bytes). l ++ back) empty))
    by text rest (front, back, inr is_front, is, same) e = none'.no text rest (front, back, is_front, is, same) e

module _ (test : ℕ → Bool) (Q : Bytes → Type 0) (apart : Apart test Q) where
  -- an optional byte goes before such a form
  pub mark_joins : Joins (Optional (One test)) Q
  mark_joins = record { no = by }
    where
      by : (front more back : Bytes) (b : ℕ) → Optional (One test) front → Optional (One test) (front ++ b ∷ more) → Q (b ∷ back) → ⊥
      by [] more back b is (inl e) q = cc
      by [] more back b is (inr (c, passes, e)) q = let same : b ≡ c = cc in apart.first b back q (ap test same ∙ passes)
      by (x ∷ front) more back b is (inl e) q = let f : x ∷ (front ++ b ∷ more) ≡ [] = e in cc
      by (x ∷ front) more back b is (inr (c, passes, e)) q = omega (arith, ap length e, length-append front (b ∷ more))

  pub mark_there : (bytes : Bytes) (at end : ℕ) → at < length bytes → test (get_or bytes at 0) ≡ true → Ends Q (drop (at + 1) bytes) (at + 1) end
      → Ends (Then (Optional (One test)) Q) (drop at bytes) at end
  mark_there bytes at end lt passes r =
      then_ends (Optional (One test)) Q mark_joins bytes at (at + 1) end
      (optional_some (One test) (drop at bytes) at (at + 1) (one_ends test bytes at lt passes)) r

  pub mark_absent : (bytes : Bytes) (at end : ℕ) → BeginsNo (One test) (drop at bytes) → Ends Q (drop at bytes) at end
      → Ends (Then (Optional (One test)) Q) (drop at bytes) at end
  mark_absent bytes at end none r =
      then_ends (Optional (One test)) Q mark_joins bytes at at end (optional_none (One test) (drop at bytes) at none) r

  pub nothing_marked : (bytes : Bytes) (at : ℕ) → at < length bytes → test (get_or bytes at 0) ≡ true → BeginsNo Q (drop (at + 1) bytes)
      → BeginsNo (Then (Optional (One test)) Q) (drop at bytes)
  nothing_marked bytes at lt passes none =
      no_optional_then (One test) Q (drop at bytes) (record { no = λ text rest is e. by text rest is (sym (from_place bytes at lt) ∙ e) })
      (no_behind_one test Q bytes at lt none)
    where
      by : (text rest : Bytes) → Q text → get_or bytes at 0 ∷ drop (at + 1) bytes ≡ text ++ rest → ⊥
      by [] rest is e = apart.some is
      by (d ∷ text) rest is e = let same : get_or bytes at 0 ≡ d = cc in apart.first d text is (ap test (sym same) ∙ passes)

  pub nothing_unmarked : (bytes : Bytes) (at : ℕ) → BeginsNo (One test) (drop at bytes) → BeginsNo Q (drop at bytes)
      → BeginsNo (Then (Optional (One test)) Q) (drop at bytes)
  nothing_unmarked bytes at none none' = no_optional_then (One test) Q (drop at bytes) none' (no_then (One test) Q (drop at bytes) none)

module _ (test : ℕ → Bool) (Q : Bytes → Type 0) where
  -- a part of a number that begins with one byte of its own
  pub part_some : (bytes : Bytes) (at end : ℕ) → at < length bytes → test (get_or bytes at 0) ≡ true → Ends Q (drop (at + 1) bytes) (at + 1) end
      → Ends (Optional (Then (One test) Q)) (drop at bytes) at end
  part_some bytes at end lt passes r =
      optional_some (Then (One test) Q) (drop at bytes) at end
      (then_ends (One test) Q (one_joins test Q) bytes at (at + 1) end (one_ends test bytes at lt passes) r)

  pub part_none : (bytes : Bytes) (at : ℕ) → at < length bytes → BeginsNo Q (drop (at + 1) bytes) → Ends (Optional (Then (One test) Q)) (drop at bytes) at at
  part_none bytes at lt none = optional_none (Then (One test) Q) (drop at bytes) at (no_behind_one test Q bytes at lt none)

  pub no_part : (bytes : Bytes) (at : ℕ) → BeginsNo (One test) (drop at bytes) → Ends (Optional (Then (One test) Q)) (drop at bytes) at at
  no_part bytes at none = optional_none (Then (One test) Q) (drop at bytes) at (no_then (One test) Q (drop at bytes) none)

-- an answer that is a place, or none
pub answer : (r : Option ℕ) (none none' : Type 0) (found found' : ℕ → Type 0) → (none → none') → ((end : ℕ) → found end → found' end)
    → MatchOption r none found → MatchOption r none' found'
answer None none none' found found' f g h = f h
answer (Some end) none none' found found' f g h = g end h
