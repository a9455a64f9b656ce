-- Contraction, at one peer.
use Rattle.std.proofs.Common.{◌≡◌, ℕ, Bool, true, false, ◌&&◌, not, List, [], ◌∷◌, ◌++◌, map, refl, sym, ◌∙◌}
use Rattle.std.specs.Prelude.{Option, Some}
use Rattle.cd_ledger.specs.declared.items.Origin.TheVariants as origin
use Rattle.cd_names.specs.declared.names.Name.{Name}
use Rattle.cd_names.specs.declared.How.{How}
use Rattle.cd_ledger.specs.declared.items.Origin.{Origin}
use Rattle.cd_ledger.specs.declared.records.Status.{Status}
use Rattle.cd_ledger.specs.declared.records.Known.{Known}
use Rattle.std.specs.List.{AllByRecursion as Each}
use Rattle.std.specs.Prelude.{is_some}
use Rattle.cd_ledger.specs.Records.{equations_of}
use Rattle.cd_ledger.specs.Statuses.{is_held, status_holds}
use Rattle.cd_machine.specs.Contraction.{hit_on, loss, strike_one, struck}
use Rattle.cd_machine.specs.Arrivals.{held}
use Rattle.cd_machine.specs.Acts.{resolution, resolve_one, resolved}
use Rattle.cd_laws.specs.Premises.{Premises}
use Rattle.cd_laws.specs.Sound.{IsCalm, IsContracted}
use Rattle.cd_laws.proofs.Lists.{Each_all, Each_both, Each_map, Each_push, Each_weaker}
use Rattle.cd_laws.proofs.Strikes.{loss_held, resolution_held, resolve_entry, resolve_held, strike_entry, strike_held}
use Rattle.cd_laws.proofs.Closure.{Keeps}
use Rattle.cd_kbo.specs.declared.order.Order.{Order}

-- a change of entries that makes nothing held and no other record
module _ (order : Order) (f : Known → Known) (entry : (e : Known) → (f e).entry ≡ e.entry) (unheld : (e : Known) → is_held (f e) ≡ true → is_held e ≡ true) where
  calm_map : (a b : Known) → IsCalm order a b → IsCalm order (f a) (f b)
  calm_map a b h x y below = rw (entry a, entry b) (h (unheld a x) (unheld b y) (rw (entry a, entry b) at below))

  pub contracted_map : (es : List Known) → IsContracted order es → IsContracted order (map f es)
  contracted_map es h =
      Each_map (λ e. Each (λ g. IsCalm order g e) (map f es)) f es
      (Each_weaker (λ e. Each (λ g. IsCalm order g e) es) (λ e. Each (λ g. IsCalm order g (f e)) (map f es))
      (λ e g. Each_map (λ x. IsCalm order x (f e)) f es
      (Each_weaker (λ x. IsCalm order x e) (λ x. IsCalm order (f x) (f e)) (λ x. calm_map x e) es g)) es h)

contracted_push : (order : Order) → (es : List Known) (e : Known) → IsContracted order es → Each (λ x. IsCalm order e x) es → Each (λ x. IsCalm order x e) es → IsCalm order e e → IsContracted order (es ++ e ∷ [])
contracted_push order es e h over under self =
    Each_push (λ x. Each (λ f. IsCalm order f x) (es ++ e ∷ [])) es e
    (Each_weaker (λ x. Each (λ f. IsCalm order f x) es × IsCalm order e x) (λ x. Each (λ f. IsCalm order f x) (es ++ e ∷ [])) (λ x g. Each_push (λ f. IsCalm order f x) es e g.0 g.1) es (Each_both (λ x. Each (λ f. IsCalm order f x) es) (λ x. IsCalm order e x) es h over))
    (Each_push (λ f. IsCalm order f e) es e under self)

and_first : (a b : Bool) → (a && b) ≡ true → a ≡ true
and_first true b h = refl
and_first false b h = cc

contracted_struck : (order : Order) → (me : ℕ) (hit : Known → Option How) (d : Name) (es : List Known) → IsContracted order es → IsContracted order (struck me hit d es)
contracted_struck order me hit d es h = contracted_map order (strike_one me hit d) (strike_entry me hit d) (λ e x. and_first (is_held e) (not (is_some (hit_on hit e))) (sym (strike_held me hit d e) ∙ x)) es h

contracted_resolved : (order : Order) → (o : Origin) (st : Status) → status_holds st ≡ false → (es : List Known) → IsContracted order es → IsContracted order (resolved o st es)
contracted_resolved order (origin.Input k) st n es h = h
contracted_resolved order (origin.Task t k) st n es h = h
contracted_resolved order (origin.Rework m) st n es h = contracted_map order (resolve_one m st) (resolve_entry m st) (λ e x. sym (resolve_held m st e n) ∙ x) es h

module _ (order : Order) (q : Premises order) where
  pub contracted_keeps : Keeps order (λ s. IsContracted order s.known)
  contracted_keeps = record {
    frame = λ s w t c n u k v j h. h;
    taken = λ s place i o there h. contracted_resolved order i.origin (resolution o (equations_of i.steps)) (resolution_held o (equations_of i.steps)) s.known h;
    lost = λ s hit d h. contracted_struck order s.me hit d s.known h;
    joined = λ s r fresh calm h. contracted_push order s.known (held r) h
        (Each_weaker (λ x. IsCalm order (held r) x × IsCalm order x (held r)) (λ x. IsCalm order (held r) x) (λ x g. g.0) s.known calm)
        (Each_weaker (λ x. IsCalm order (held r) x × IsCalm order x (held r)) (λ x. IsCalm order x (held r)) (λ x g. g.1) s.known calm)
        (λ x y b. absurd (q.key_irrefl r.clause (Some r.name) b));
    shelved = λ s r d w fresh h.
        let none : status_holds (loss s.me d w r) ≡ false = loss_held s.me d w r in
        contracted_push order s.known (record { entry = r; status = loss s.me d w r }) h
        (Each_all _ (λ x a b c. absurd (clash none a)) s.known) (Each_all _ (λ x a b c. absurd (clash none b)) s.known) (λ a b c. absurd (clash none a));
    replaced = λ s place i j there same h. h;
    worked = λ s task y is h. h;
  }
    where
      clash : {b : Bool} → b ≡ false → b ≡ true → ⊥
      clash x y = cc
