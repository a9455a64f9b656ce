-- Places in lists without repetition, and what a table's parts say of the table.
use Rattle.std.proofs.Common.{◌≡◌, ◌≢◌, ◌⊎◌, ◌∙◌, ◌<◌, ◌≤◌, ◌++◌, ◌∷◌, [], ℕ, zero, suc, Bool, true, false, List, Some, length, map, get_or, slice_get, if◌then◌else◌, refl, sym, ap, subst, arith, inl, inr, true≢false, nat_eq}
use Rattle.std.specs.Bool.{Decides}
use Rattle.std.specs.List.{IsDistinct, position, list_any}
use Rattle.std.specs.Option.{option_map}
use Rattle.std.specs.Cmp.Lexicographic.{pointwise, bytes_decides}
use Rattle.std.proofs.lemmas.Option.{slice_get-map, slice_get_within, slice_get-get_or, get_or_from_slice_get}
use Rattle.std.proofs.lemmas.List.{get_or_append_left}
use Rattle.std.proofs.lemmas.List.Quantifiers.{position-Some}
use Rattle.std.proofs.lemmas.List.Folds.{list_any_at, Any-from_list_any}
use Rattle.std.proofs.lemmas.Bool.{cases_order}
use Rattle.std.proofs.lemmas.Map.Made.{AllPairs-from_IsDistinct}
use Rattle.indexmap.specs.IndexSet.{insert_key}
use Rattle.cd_symbols.specs.declared.Kind.{Kind}
use Rattle.cd_symbols.specs.declared.Key.{Key}
use Rattle.cd_symbols.specs.Symbol.{Symbol, symbol_of, Lacks, AreDistinct}
use Rattle.cd_symbols.specs.Table.{shown, AreWithin}

module _ {A : Type 0} (eq : A → A → Bool) (same : (a b : A) → Decides (eq a b) (a ≡ b)) where
  -- the place of an element
  pub at_position : (xs : List A) (a : A) (n : ℕ) → Some n ≡ position (eq a) xs → slice_get xs n ≡ Some a
  at_position xs a n e =
      let p = position-Some (eq a) xs n a (sym e) in
      slice_get-get_or xs n a p.0 ∙ ap Some (sym ((same a (get_or xs n a)).0 p.1))

  -- an element that no test finds has no place
  pub at_no_position : (xs : List A) (a : A) → false ≡ list_any (eq a) xs → (n : ℕ) → slice_get xs n ≢ Some a
  at_no_position xs a none n e =
      let within = slice_get_within xs n a e in
      true≢false (sym (list_any_at (eq a) xs n a within ((same a (get_or xs n a)).1 (sym (get_or_from_slice_get xs n a a e)))) ∙ sym none)

  -- an element that has no place is found by no test
  pub nowhere : (xs : List A) (a : A) → ((n : ℕ) → slice_get xs n ≢ Some a) → list_any (eq a) xs ≡ false
  nowhere xs a lacks = by (list_any (eq a) xs) refl
    where
      by : (b : Bool) → list_any (eq a) xs ≡ b → b ≡ false
      by false e = refl
      by true e =
          let (k, x, within, is, passes) = Any-from_list_any (eq a) xs e in
          absurd (lacks k (slice_get-get_or xs k x within ∙ ap Some (is ∙ sym ((same a x).0 passes))))

  apart : (xs : List A) → IsDistinct eq xs → (m n : ℕ) (a : A) → m < n → slice_get xs m ≡ Some a → slice_get xs n ≡ Some a → ⊥
  apart xs distinct m n a lt at_m at_n =
      AllPairs-from_IsDistinct same xs distinct m n a lt (slice_get_within xs n a at_n)
      (get_or_from_slice_get xs m a a at_m ∙ sym (get_or_from_slice_get xs n a a at_n))

  -- no element has two places
  pub one_place : (xs : List A) → IsDistinct eq xs → (m n : ℕ) (a : A) → slice_get xs m ≡ Some a → slice_get xs n ≡ Some a → m ≡ n
  one_place xs distinct m n a at_m at_n = by (cases_order m n)
    where
      by : (m ≡ n) ⊎ ((m < n) ⊎ (n < m)) → m ≡ n
      by (inl e) = e
      by (inr (inl lt)) = absurd (apart xs distinct m n a lt at_m at_n)
      by (inr (inr lt)) = absurd (apart xs distinct n m a lt at_n at_m)

  -- an insertion keeps what was there
  pub kept : (xs : List A) (a d : A) (n : ℕ) → n < length xs → get_or (insert_key eq xs a) n d ≡ get_or xs n d
  kept xs a d n within = by (list_any (eq a) xs)
    where
      by : (b : Bool) → get_or (if b then xs else xs ++ a ∷ []) n d ≡ get_or xs n d
      by true = refl
      by false = get_or_append_left xs (a ∷ []) d n within

  -- a new element is put at the end
  pub put_last : (xs : List A) (a : A) → ((n : ℕ) → slice_get xs n ≢ Some a) → insert_key eq xs a ≡ xs ++ a ∷ []
  put_last xs a lacks = ap (λ b. if b then xs else xs ++ a ∷ []) (nowhere xs a lacks)

-- equal texts
pub same_text : (a b : List ℕ) → Decides (pointwise nat_eq a b) (a ≡ b)
same_text a b = bytes_decides a b

-- an element of an appended list
pub at_append : {A : Type 0} (xs : List A) (a b : A) (n : ℕ) → slice_get (xs ++ a ∷ []) n ≡ Some b → (slice_get xs n ≡ Some b) ⊎ (a ≡ b)
at_append [] a b zero e = inr (cc)
at_append [] a b (suc n) e = absurd (cc)
at_append (x ∷ xs) a b zero e = inl e
at_append (x ∷ xs) a b (suc n) e = at_append xs a b n e

-- where a symbol's key stands
pub record Stands (texts : List (List ℕ)) (keys : List Key) (n : ℕ) (s : Symbol) : Type 0 where
  pub key : Key
  pub at : slice_get keys n ≡ Some key
  pub is : shown texts key ≡ s

module _ (texts : List (List ℕ)) where
  pub stands : (keys : List Key) (n : ℕ) (s : Symbol) → slice_get (map (shown texts) keys) n ≡ Some s → Stands texts keys n s
  stands [] n s e = absurd (cc)
  stands (key ∷ keys) zero s e = record { key = key; at = refl; is = cc }
  stands (key ∷ keys) (suc n) s e = let r = stands keys n s e in record { key = r.key; at = r.at; is = r.is }

  -- the text of a symbol that is there
  pub text_at : (keys : List Key) → AreWithin (length texts) keys → (n : ℕ) (s : Symbol) (r : Stands texts keys n s) → slice_get texts r.key.text ≡ Some s.text
  text_at keys within n s r = slice_get-get_or texts r.key.text [] (within n r.key r.at) ∙ ap (λ t. Some t.text) r.is

  -- a text that is nowhere has no symbol
  pub no_text : (keys : List Key) → AreWithin (length texts) keys → (text : List ℕ) (arity : ℕ) (kind : Kind)
      → ((n : ℕ) → slice_get texts n ≢ Some text) → Lacks (map (shown texts) keys) (symbol_of text arity kind)
  no_text keys within text arity kind lacks n e =
      let r = stands keys n (symbol_of text arity kind) e in
      lacks r.key.text (text_at keys within n (symbol_of text arity kind) r)

  -- a symbol whose text and key are there is there
  pub there : (keys : List Key) (place n : ℕ) (text : List ℕ) (arity : ℕ) (kind : Kind) → slice_get texts place ≡ Some text
      → slice_get keys n ≡ Some (record { text = place; arity = arity; kind = kind }) → slice_get (map (shown texts) keys) n ≡ Some (symbol_of text arity kind)
  there keys place n text arity kind at at_n =
      slice_get-map (shown texts) keys n ∙ ap (option_map (shown texts)) at_n
      ∙ ap (λ t. Some (symbol_of t arity kind)) (get_or_from_slice_get texts place text [] at)

module _ (texts : List (List ℕ)) (distinct : IsDistinct (pointwise nat_eq) texts) where
  -- the key of a symbol is known from its text
  pub key_of : (keys : List Key) → AreWithin (length texts) keys → (place n : ℕ) (s : Symbol) → slice_get texts place ≡ Some s.text → (r : Stands texts keys n s)
      → r.key ≡ record { text = place; arity = s.arity; kind = s.kind }
  key_of keys within place n s at r =
      let p : r.key.text ≡ place = one_place (pointwise nat_eq) same_text texts distinct r.key.text place s.text (text_at texts keys within n s r) at in
      let a : r.key.arity ≡ s.arity = ap (λ t. t.arity) r.is in
      let k : r.key.kind ≡ s.kind = ap (λ t. t.kind) r.is in
      λ i. record { text = p i; arity = a i; kind = k i }

  -- a symbol whose text is there and whose key is nowhere
  pub no_key : (keys : List Key) → AreWithin (length texts) keys → (place : ℕ) (text : List ℕ) (arity : ℕ) (kind : Kind) → slice_get texts place ≡ Some text
      → ((n : ℕ) → slice_get keys n ≢ Some (record { text = place; arity = arity; kind = kind }))
      → Lacks (map (shown texts) keys) (symbol_of text arity kind)
  no_key keys within place text arity kind at lacks n e =
      let r = stands texts keys n (symbol_of text arity kind) e in
      lacks n (r.at ∙ ap Some (key_of keys within place n (symbol_of text arity kind) at r))

  -- no symbol has two places
  pub distinct_table : (keys : List Key) (eq : Key → Key → Bool) → ((a b : Key) → Decides (eq a b) (a ≡ b))
      → IsDistinct eq keys → AreWithin (length texts) keys → AreDistinct (map (shown texts) keys)
  distinct_table keys eq same apart_keys within m n s at_m at_n =
      let r = stands texts keys m s at_m in
      let q = stands texts keys n s at_n in
      let place : slice_get texts q.key.text ≡ Some s.text = text_at texts keys within n s q in
      let key : r.key ≡ q.key = key_of keys within q.key.text m s place r ∙ sym (key_of keys within q.key.text n s place q) in
      one_place eq same keys apart_keys m n q.key (r.at ∙ ap Some key) q.at

-- more texts change no symbol
pub more_texts : (texts more : List (List ℕ)) → ((n : ℕ) → n < length texts → get_or more n [] ≡ get_or texts n []) → (keys : List Key)
    → AreWithin (length texts) keys → map (shown more) keys ≡ map (shown texts) keys
more_texts texts more same [] within = refl
more_texts texts more same (key ∷ keys) within =
    let text = same key.text (within 0 key refl) in
    let rest = more_texts texts more same keys (λ n k e. within (suc n) k e) in
    λ i. record { text = text i; arity = key.arity; kind = key.kind } ∷ rest i

map_append : {A B : Type 0} (f : A → B) (xs : List A) (a : A) → map f (xs ++ a ∷ []) ≡ map f xs ++ f a ∷ []
map_append f [] a = refl
map_append f (x ∷ xs) a = ap (λ l. f x ∷ l) (map_append f xs a)

-- the table after a new symbol was put at the end
pub longer_table : (texts more : List (List ℕ)) (keys : List Key) (place : ℕ) (text : List ℕ) (arity : ℕ) (kind : Kind)
    → ((n : ℕ) → n < length texts → get_or more n [] ≡ get_or texts n []) → AreWithin (length texts) keys → slice_get more place ≡ Some text
    → map (shown more) (keys ++ record { text = place; arity = arity; kind = kind } ∷ []) ≡ map (shown texts) keys ++ symbol_of text arity kind ∷ []
longer_table texts more keys place text arity kind same within at =
    map_append (shown more) keys (record { text = place; arity = arity; kind = kind })
    ∙ ap (λ l. l ++ shown more (record { text = place; arity = arity; kind = kind }) ∷ []) (more_texts texts more same keys within)
    ∙ ap (λ t. map (shown texts) keys ++ symbol_of t arity kind ∷ []) (get_or_from_slice_get more place text [] at)

-- the key of a symbol that the table lacks is nowhere
pub lacks_key : (texts more : List (List ℕ)) (keys : List Key) (place : ℕ) (text : List ℕ) (arity : ℕ) (kind : Kind)
    → ((n : ℕ) → n < length texts → get_or more n [] ≡ get_or texts n []) → AreWithin (length texts) keys → slice_get more place ≡ Some text
    → Lacks (map (shown texts) keys) (symbol_of text arity kind) → (n : ℕ) → slice_get keys n ≢ Some (record { text = place; arity = arity; kind = kind })
lacks_key texts more keys place text arity kind same within at lacks n at_n =
    lacks n (ap (λ l. slice_get l n) (sym (more_texts texts more same keys within)) ∙ there more keys place n text arity kind at at_n)

-- the texts of a longer list of keys are there
pub within_longer : (count most : ℕ) (keys : List Key) (key : Key) → AreWithin count keys → count ≤ most → key.text < most → AreWithin most (keys ++ key ∷ [])
within_longer count most keys key within le lt n k e = by (at_append keys key k n e)
  where
    by : (slice_get keys n ≡ Some k) ⊎ (key ≡ k) → k.text < most
    by (inl at) = let h : k.text < count = within n k at in omega arith
    by (inr is) = subst (λ (q : Key). q.text < most) is lt

-- the insertion of a text keeps the places of the others
pub same_places : (texts more : List (List ℕ)) (text : List ℕ) → more ≡ insert_key (pointwise nat_eq) texts text → (n : ℕ) → n < length texts
    → get_or more n [] ≡ get_or texts n []
same_places texts more text e n lt = ap (λ (l : List (List ℕ)). get_or l n []) e ∙ kept (pointwise nat_eq) same_text texts text [] n lt
