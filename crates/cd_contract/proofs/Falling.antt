-- The ground forms of a reduct are below those of the clause.
use Rattle.std.proofs.Common.{◌≡◌, ℕ, zero, suc, Bool, List, [], ◌∷◌, ◌++◌, take, drop, ap, subst, refl, sym, ◌∙◌, Some, slice_get, slice_set}
use Rattle.std.specs.Ordering.{ordering_reverse}
use Rattle.std.specs.declared.cmp.Ordering.TheVariants.{Less}
use Rattle.std.proofs.lemmas.List.{set_split, set-get_or}
use Rattle.std.proofs.lemmas.Option.{get_or_from_slice_get, slice_get_within, same_Some}
use Rattle.cd_term.specs.declared.Term.{Term}
use Rattle.cd_term.specs.declared.Term.TheVariants.{App}
use Rattle.cd_term.specs.Terms.{subterm, replaced}
use Rattle.cd_term.proofs.PathLaws.{replaced-same}
use Rattle.cd_term.proofs.Replaced.{replaced-in}
use Rattle.cd_clause.specs.declared.Atom.{Atom}
use Rattle.cd_clause.specs.declared.Atom.TheVariants.{Truth, Pred, Equal}
use Rattle.cd_clause.specs.declared.Literal.{Literal}
use Rattle.cd_clause.specs.declared.Clause.{Clause}
use Rattle.cd_clause.specs.Clauses.{terms_of}
use Rattle.cd_kbo.specs.declared.order.Order.{Order}
use Rattle.cd_kbo.specs.Kbo.{Greater, Every, ground_compare}
use Rattle.cd_kbo.proofs.KboLemmas.{above}
use Rattle.cd_kbo.proofs.LawsOfOrders.{ground_laws}
use Rattle.cd_kbo.proofs.Contexts.{ground_contexts}
use Rattle.cd_key.specs.Forms.{literal_compare}
use Rattle.cd_key.specs.Keys.{forms_compare}
use Rattle.cd_key.proofs.FormLemmas.{forms_total}
use Rattle.cd_key.proofs.FallLemmas.{literals_fall, item_falls}
use Rattle.cd_clause.specs.Places.{signed, subterm_at, with_term, replaced_at}
use Rattle.cd_clause.proofs.PlaceLemmas.{stands_in, replaces_in}
use Rattle.cd_rewrite.specs.Reduction.{Spot, IsReduct}

turned : (o : Order) (old new : Term) → Greater o old new → ground_compare o new old ≡ Less
turned o old new g = (ground_laws o).total.antisymm new old ∙ ap ordering_reverse (above Every o old new g)

term_falls : (o : Order) (path : List ℕ) (new t v old : Term) → subterm path t ≡ Some old → replaced path new t ≡ Some v → ground_compare o new old ≡ Less →
    ground_compare o v t ≡ Less
term_falls o path new t v old at put less = ground_contexts o path t new old v t put (replaced-same path t old at) less

same_args : (ts : List Term) (i : ℕ) (x : Term) → slice_get ts i ≡ Some x → slice_set ts i x ≡ ts
same_args ts i x e = subst (λ w. slice_set ts i w ≡ ts) (get_or_from_slice_get ts i x x e) (set-get_or ts i x)

-- an argument of a predicate
predicate_falls : (o : Order) (p : ℕ) (args : List Term) (k : ℕ) (a b : Term) → slice_get args k ≡ Some a → ground_compare o b a ≡ Less →
    ground_compare o (App p (slice_set args k b)) (App p args) ≡ Less
predicate_falls o p args k a b at less =
    ground_contexts o (k ∷ []) (App p args) b a (App p (slice_set args k b)) (App p args)
    (replaced-in (k ∷ []) k [] b (App p args) p args a refl refl at)
    (replaced-in (k ∷ []) k [] a (App p args) p args a refl refl at ∙ ap (λ ts. Some (App p ts)) (same_args args k a at)) less

none_past : (a : Term) (k : ℕ) → slice_get [] k ≡ Some a → ⊥
none_past a zero e = cc
none_past a (suc k) e = cc

side_falls : (o : Order) (sign : Bool) (k : ℕ) (s t a b : Term) → slice_get (s ∷ t ∷ []) k ≡ Some a → ground_compare o b a ≡ Less →
    literal_compare o (signed sign (with_term k b (Equal s t))) (signed sign (Equal s t)) ≡ Less
side_falls o sign zero s t a b at less =
    let is : s ≡ a = same_Some s a at in (literals_fall o).1 sign b s t (ap (ground_compare o b) is ∙ less)
side_falls o sign (suc zero) s t a b at less =
    let is : t ≡ a = same_Some t a at in (literals_fall o).2 sign b t s (ap (ground_compare o b) is ∙ less)
side_falls o sign (suc (suc k)) s t a b at less = absurd (none_past a k at)

atom_falls : (o : Order) (sign : Bool) (k : ℕ) (x : Atom) (a b : Term) → slice_get (terms_of x) k ≡ Some a → ground_compare o b a ≡ Less →
    literal_compare o (signed sign (with_term k b x)) (signed sign x) ≡ Less
atom_falls o sign zero Truth a b at less = absurd (cc)
atom_falls o sign (suc k) Truth a b at less = absurd (cc)
atom_falls o sign k (Pred p args) a b at less = (literals_fall o).0 sign sign p p (slice_set args k b) args (predicate_falls o p args k a b at less)
atom_falls o sign k (Equal s t) a b at less = side_falls o sign k s t a b at less

literal_falls : (o : Order) (path : List ℕ) (new old : Term) (l : Literal) (b : Atom) → subterm_at path l.atom ≡ Some old → replaced_at path new l.atom ≡ Some b →
    ground_compare o new old ≡ Less → literal_compare o (signed l.positive b) l ≡ Less
literal_falls o [] new old l b at put less = absurd (cc)
literal_falls o (k ∷ path) new old l b at put less =
    let s = stands_in k path l.atom old at in let r = replaces_in k path new l.atom b put in
    let term : s.term ≡ r.term = same_Some s.term r.term (sym s.here ∙ r.here) in
    ap (λ x. literal_compare o (signed l.positive x) l) r.result
    ∙ atom_falls o l.positive k l.atom r.term r.changed r.here
    (term_falls o path new r.term r.changed old (ap (subterm path) (sym term) ∙ s.rest) r.rest less)

-- a literal in a place of a clause
clause_falls : (o : Order) (ls : List Literal) (j : ℕ) (l m : Literal) → slice_get ls j ≡ Some l → literal_compare o m l ≡ Less →
    forms_compare o (record { literals = slice_set ls j m }) (record { literals = ls }) ≡ Less
clause_falls o ls j l m at less =
    let lt = slice_get_within ls j l at in
    let new : slice_set ls j m ≡ take j ls ++ m ∷ drop (suc j) ls = set_split ls j m lt in
    let old : ls ≡ take j ls ++ l ∷ drop (suc j) ls
    = sym (subst (λ w. slice_set ls j w ≡ ls) (get_or_from_slice_get ls j l l at) (set-get_or ls j l)) ∙ set_split ls j l lt in
    ap (λ ks. forms_compare o (record { literals = ks }) (record { literals = ls })) new
    ∙ ap (λ ks. forms_compare o (record { literals = take j ls ++ m ∷ drop (suc j) ls }) (record { literals = ks })) old
    ∙ item_falls (literal_compare o) (forms_total o) (take j ls) (drop (suc j) ls) l m less

-- the ground forms of a reduct are below those of the clause
pub reduct_forms : (o : Order) (e c d : Clause) (at : Spot) (s : List Term) → IsReduct o e c at s d → forms_compare o d c ≡ Less
reduct_forms o e c d at s r =
    let less = literal_falls o at.path r.by.new r.by.old r.by.taker r.changed r.by.there r.becomes (turned o r.by.old r.by.new r.by.lowers.falls) in
    ap (λ ks. forms_compare o (record { literals = ks }) c) r.rest
    ∙ clause_falls o c.literals at.literal r.by.taker (signed r.by.taker.positive r.changed) r.by.literal less
