-- Which held clauses make a clause superfluous, and which a clause makes superfluous.
-- Beyond the headline: no clause of `prove` reaches Contracts, Contracting, IsFirstOf, IsForward, IsWay, IsStruckBy,
--   hits_with, AreStruck, IsReducer.
use Rattle.std.specs.Prelude.{◌≡◌, ◌⊎◌, List, [], ◌∷◌, Option, Some, None, option_map}
use Rattle.std.specs.declared.cmp.Ordering.TheVariants.{Less}
use Rattle.cd_clause.specs.declared.Clause.{Clause}
use Rattle.cd_kbo.specs.declared.order.Order.{Order}
use Rattle.cd_names.specs.declared.names.Name.{Name}
use Rattle.cd_names.specs.declared.How.{How}
use Rattle.cd_names.specs.declared.How.TheVariants.{Subsumes, Reduces}
use Rattle.cd_key.specs.Keys.{key_of, key_compare}
use Rattle.cd_subsume.specs.Subsumption as subsumption
use Rattle.cd_rewrite.specs.Reduction as reduction
use Rattle.cd_contract.specs.declared.held.Entry.{Entry}
use Rattle.cd_contract.specs.declared.held.Hit.{Hit}
use Rattle.cd_contract.specs.declared.held.Struck.{Struck}

-- a clause makes another one superfluous in a way
abbrev pub Contracts : Order → How → Clause → Clause → Type 0
Contracts o Subsumes d c = subsumption.Subsumes d c
Contracts o Reduces d c = reduction.Reduces o d c

-- the key of a clause under a name is smaller than that of another
abbrev pub KeyBelow : Order → Clause → Option Name → Clause → Option Name → Type 0
KeyBelow o d n c m = key_compare o (key_of d n) (key_of c m) ≡ Less

-- a held clause of smaller key makes a clause superfluous in a way
pub record Contracting (o : Order) (how : How) (c : Clause) (n : Option Name) (e : Entry) : Type 0 where
  pub below : KeyBelow o e.clause (Some e.name) c n
  pub contracts : Contracts o how e.clause c

-- the first item of a list of which something holds, or nothing where it holds of none
abbrev pub IsFirstOf : {A : Type 0} → (A → Type 0) → List A → Option A → Type 0
IsFirstOf P [] found = found ≡ None
IsFirstOf P (x ∷ xs) found = (P x × (found ≡ Some x)) ⊎ ((P x → ⊥) × IsFirstOf P xs found)

-- the first held clause of smaller key that subsumes a clause, and where there is none the first that reduces it
abbrev pub IsForward : Order → Clause → Option Name → List Entry → Option Hit → Type 0
IsForward o c n held hit =
    ((e : Entry) × IsFirstOf (Contracting o Subsumes c n) held (Some e) × (hit ≡ Some (record { by = e.name; how = Subsumes })))
    ⊎ (IsFirstOf (Contracting o Subsumes c n) held None
    × ((e : Entry) × IsFirstOf (Contracting o Reduces c n) held (Some e) × (hit ≡ Some (record { by = e.name; how = Reduces }))))
    ⊎ (IsFirstOf (Contracting o Subsumes c n) held None × IsFirstOf (Contracting o Reduces c n) held None × (hit ≡ None))

-- how a clause makes another one superfluous, if it does: subsumption goes first
abbrev pub IsWay : Order → Clause → Clause → Option How → Type 0
IsWay o d c None = (Contracts o Subsumes d c → ⊥) × (Contracts o Reduces d c → ⊥)
IsWay o d c (Some Subsumes) = Contracts o Subsumes d c
IsWay o d c (Some Reduces) = (Contracts o Subsumes d c → ⊥) × Contracts o Reduces d c

-- the same of a clause under a name and a held clause of greater key
abbrev pub IsStruckBy : Order → Clause → Name → Entry → Option How → Type 0
IsStruckBy o d n e None = (KeyBelow o d (Some n) e.clause (Some e.name) → ⊥) ⊎ IsWay o d e.clause None
IsStruckBy o d n e (Some how) = KeyBelow o d (Some n) e.clause (Some e.name) × IsWay o d e.clause (Some how)

-- the hits of a clause among held ones, in their order
abbrev pub hits_with : Name → Option How → List Struck → List Struck
hits_with n None hits = hits
hits_with n (Some how) hits = record { of = n; how = how } ∷ hits

abbrev pub AreStruck : Order → Clause → Name → List Entry → List Struck → Type 0
AreStruck o d n [] hits = hits ≡ []
AreStruck o d n (e ∷ es) hits =
    (how : Option How) × (rest : List Struck) × IsStruckBy o d n e how × AreStruck o d n es rest × (hits ≡ hits_with e.name how rest)

-- the name of the first held equation of smaller key that reduces a clause
abbrev pub IsReducer : Order → Clause → Option Name → List Entry → Option Name → Type 0
IsReducer o c n held answer =
    (e : Option Entry) × IsFirstOf (Contracting o Reduces c n) held e × (answer ≡ option_map (λ x. x.name) e)
