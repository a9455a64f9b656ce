-- The laws of every run.
use Rattle.std.proofs.Common.{◌≡◌, ℕ, ◌<◌, ◌≤◌, ◌≢◌, List, [], ◌∷◌, ◌++◌, map, length, arith, ap, sym, ◌∙◌, subst, inl, inr, ◌⊎◌}
use Rattle.std.specs.Prelude.{Some, None}
use Rattle.std.specs.List.{flat_map}
use Rattle.std.proofs.lemmas.List.{get_or_past}
use Rattle.std.proofs.lemmas.Bool.{cases_lt}
use Rattle.cd_ledger.specs.declared.letters.Body.TheVariants as body
use Rattle.cd_names.specs.declared.names.Name.{Name}
use Rattle.cd_ledger.specs.declared.records.Record.{Record}
use Rattle.cd_ledger.specs.declared.letters.Body.{Body}
use Rattle.cd_ledger.specs.declared.letters.Letter.{Letter}
use Rattle.cd_ledger.specs.declared.events.Act.{Act}
use Rattle.cd_ledger.specs.declared.events.Act.TheVariants.{Declare, Reject}
use Rattle.cd_ledger.specs.declared.events.Event.{Event}
use Rattle.cd_ledger.specs.declared.local.Local.{Local}
use Rattle.std.specs.List.{AllByRecursion as Each}
use Rattle.std.specs.Prelude.{filter_map}
use Rattle.cd_machine.specs.Rules.{clauses_of, IsTautology}
use Rattle.cd_ledger.specs.declared.records.Status.{Status}
use Rattle.cd_ledger.specs.declared.records.Status.TheVariants.{Held, Rework, Dropped, Told}
use Rattle.cd_clause.specs.Truth.{Holds, Interp, IsInterp}
use Rattle.cd_ledger.specs.Records.{recorded}
use Rattle.cd_machine.specs.World.{Run, World, at, nobody}
use Rattle.cd_machine.specs.Spread.{Genuine, record_of}
use Rattle.cd_laws.specs.Sound.{IsSound, TrueBody, TrueKnown, TrueLetter, TrueStatus}
use Rattle.cd_machine.specs.Carried.{IsClosed, carried, carried_by, coming_clause, held_by}
use Rattle.cd_laws.specs.Statements.{BodyGenuine, CarriedClausesKeepModels, LonePeersSendNothing, NamesAreOne, NamesDescend, PeersAreContracted, RunsAreLawful, RunsRejectNothing, StatusFits, TasksAreAccounted, TokensAreOne}
use Rattle.cd_laws.specs.Closing.{RunsEndDeclared}
use Rattle.cd_laws.proofs.Lists.{Each_append, Each_left, Each_weaker}
use Rattle.cd_laws.proofs.Steps.{step_length}
use Rattle.cd_laws.proofs.Spread.{IsNoReject}
use Rattle.cd_laws.proofs.Whole.{no_reject, run_sound, step_sound}
use Rattle.cd_laws.proofs.Start.{start_sound}
use Rattle.cd_laws.proofs.Descent.{descends}
use Rattle.cd_laws.proofs.Models.{carried_hold, flat_all, flat_at, inputs_hold, run_holds}
use Rattle.cd_laws.proofs.Account.{accounted_pair, accounted_solo, alone, pair_elsewhere, solo_elsewhere}
use Rattle.cd_laws.proofs.Still.{IsDeclareAct}
use Rattle.cd_laws.proofs.Declared.{declared, run_waves, start_waves}
use Rattle.cd_kbo.specs.declared.order.Order.{Order}

pub lawful : (order : Order) → RunsAreLawful order
lawful order q p policy limits start w es s r = record {
  names = record {
    spread = sound.spread;
    known = λ k l. Each_weaker (TrueKnown order p policy (length w.locals) (record_of w) (at w k).me) (λ e. Genuine (record_of w) e.entry) (λ e x. x.genuine) (at w k).known (sound.truth.locals k l).known;
    waiting = λ k l. letters (at w k).waiting (sound.truth.locals k l).waiting;
    travelling = letters w.travelling sound.truth.travelling;
    statuses = λ k l. Each_weaker (TrueKnown order p policy (length w.locals) (record_of w) (at w k).me) (λ e. StatusFits k e.entry e.status) (λ e x. fits k l e.entry e.status x.status) (at w k).known (sound.truth.locals k l).known;
  };
  contracted = record {
    no_tautology = λ k l. Each_weaker (TrueKnown order p policy (length w.locals) (record_of w) (at w k).me) (λ e. ¬ IsTautology e.entry.clause) (λ e x. x.right.no_tautology) (at w k).known (sound.truth.locals k l).known;
    contracted = sound.contracted;
  };
  descends = descends order q p policy w sound;
  carries = record {
    models = λ interp ii. (
      (λ carry. inputs_hold order q p policy w sound interp ii carry pos),
      (λ inputs. carried_hold order q p policy w sound interp ii inputs (all_hold interp ii inputs)),
    );
    closed = λ c interp ii. (
      (λ held'. inputs_hold order q p policy w sound interp ii (from_held interp c held') pos),
      (λ inputs. to_held interp (carried_hold order q p policy w sound interp ii inputs (all_hold interp ii inputs))),
    );
  };
  tasks = record {
    pairs = accounted_pair order q p policy w sound;
    solos = accounted_solo order q p policy w sound;
    pair_elsewhere = pair_elsewhere order q p policy w sound;
    solo_elsewhere = solo_elsewhere order q p policy w sound;
  };
  token = sound.tokens;
  lone = alone order q p policy w sound;
}
  where
    sound : IsSound order p policy w
    sound = run_sound order q p policy es start w r (start_sound order q p policy limits s.fit start s)

    fits : (k : ℕ) → k < length w.locals → (r : Record) (st : Status) → TrueStatus order (record_of w) (at w k).me r st → StatusFits k r st
    fits k l r Held h = tt
    fits k l r (Rework d) h = h.0 ∙ (sound.places k l).0
    fits k l r (Dropped why) h = h.0 ∙ (sound.places k l).0
    fits k l r (Told d) h = λ e. h (e ∙ sym (sound.places k l).0)

    to_held : (interp : Interp) → Each (Holds interp) (carried w) → Each (Holds interp) (flat_map held_by w.locals)
    to_held interp h = flat_all (Holds interp) held_by w.locals (λ k l. Each_left (Holds interp) (held_by (at w k)) (map (λ i. i.clause) (at w k).pending ++ filter_map coming_clause (at w k).waiting)
        (flat_at (Holds interp) carried_by w.locals k l (Each_left (Holds interp) (flat_map carried_by w.locals) (filter_map coming_clause w.travelling) h)))

    from_held : (interp : Interp) → IsClosed w → Each (Holds interp) (flat_map held_by w.locals) → Each (Holds interp) (carried w)
    from_held interp c h = Each_append (Holds interp) (flat_map carried_by w.locals) (filter_map coming_clause w.travelling)
        (flat_all (Holds interp) carried_by w.locals (λ k l. Each_append (Holds interp) (held_by (at w k)) (map (λ i. i.clause) (at w k).pending ++ filter_map coming_clause (at w k).waiting)
        (flat_at (Holds interp) held_by w.locals k l h)
        (rw (c.pending k l, c.waiting k l) tt)))
        (rw c.travelling tt)

    letters : (ls : List Letter) → Each (TrueLetter order p policy (length w.locals) (record_of w)) ls → Each (λ l. BodyGenuine (record_of w) l.body) ls
    letters ls h = Each_weaker (TrueLetter order p policy (length w.locals) (record_of w)) (λ l. BodyGenuine (record_of w) l.body) (λ l x. one l.body l.sender l.to x.says) ls h
      where
        one : (b : Body) (sender to : ℕ) → TrueBody order p policy (length w.locals) (record_of w) sender to b → BodyGenuine (record_of w) b
        one (body.Kept r) sender to x = x.0
        one (body.Notice a c d) sender to x = tt
        one (body.Token t) sender to x = tt

    run_length : (es : List Event) (w v : World) → Run order p w es v → length v.locals ≡ length w.locals
    run_length [] w v r = ap (λ (z : World). length z.locals) r
    run_length (e ∷ es) w v r = (lengthen r.0 v r.2) ∙ step_length order p w e r.0 r.1
      where
        lengthen : (u v : World) → Run order p u es v → length v.locals ≡ length u.locals
        lengthen u v r = go es u v r
          where
            go : (fs : List Event) (u v : World) → Run order p u fs v → length v.locals ≡ length u.locals
            go [] u v r = ap (λ (z : World). length z.locals) r
            go (f ∷ fs) u v r = go fs r.0 v r.2 ∙ step_length order p u f r.0 r.1

    pos : 0 < length w.locals
    pos = let l = run_length es start w r in let g = s.some_peer in omega (arith, l, g)

    none : (n : Name) (c : Record) → record_of start n ≡ Some c → ⊥
    none n c x = by (cases_lt n.peer (length start.locals))
      where
        no_record : None ≡ Some c → ⊥
        no_record f = cc

        by : (n.peer < length start.locals) ⊎ (length start.locals ≤ n.peer) → ⊥
        by (inl l) = let f = s.fresh n.peer l in no_record (subst (λ (z : Local). recorded n z.known ≡ Some c) f.2 x)
        by (inr o) = no_record (subst (λ (z : Local). recorded n z.known ≡ Some c) (get_or_past start.locals n.peer nobody o) x)

    all_hold : (interp : Interp) → IsInterp interp → Each (Holds interp) (clauses_of p) → (n : Name) (c : Record) → record_of w n ≡ Some c → Holds interp c.clause
    all_hold interp ii inputs = run_holds order q p policy interp ii inputs es start w r (start_sound order q p policy limits s.fit start s) (λ n c x. absurd (none n c x))

reject_none : (a : Act) → IsNoReject a → (k : ℕ) → a ≢ Reject k
reject_none a h k e = subst IsNoReject e h

pub nothing_rejected : (order : Order) → RunsRejectNothing order
nothing_rejected order q p policy limits start w es s r = go es start w r (start_sound order q p policy limits s.fit start s)
  where
    go : (es : List Event) (u w : World) → Run order p u es w → IsSound order p policy u → Each (λ e. (k : ℕ) → e.act ≢ Reject k) es
    go [] u w r i = tt
    go (e ∷ es) u w r i = (reject_none e.act (no_reject order q p policy u e r.0 r.1 i), go es r.0 w r.2 (step_sound order q p policy u e r.0 r.1 i))

declare_act : (a : Act) → a ≡ Declare → IsDeclareAct a
declare_act a h = subst IsDeclareAct (sym h) tt

pub end_declared : (order : Order) → RunsEndDeclared order
end_declared order q p policy limits start w v front e s r h is =
    elim (run_waves order q p policy front start w r (start_sound order q p policy limits s.fit start s) (start_waves order q p policy limits start s)) [
      | inl x ↦ declared order q p policy w e v h (run_sound order q p policy front start w r (start_sound order q p policy limits s.fit start s)) x (declare_act e.act is)
      | inr d ↦ absurd (d.ends e v h)
    ]

-- ---- each law

pub names_are_one : (order : Order) → NamesAreOne order
names_are_one order q p policy limits start w es s r = (lawful order q p policy limits start w es s r).names

pub peers_are_contracted : (order : Order) → PeersAreContracted order
peers_are_contracted order q p policy limits start w es s r = (lawful order q p policy limits start w es s r).contracted

pub names_descend : (order : Order) → NamesDescend order
names_descend order q p policy limits start w es s r = (lawful order q p policy limits start w es s r).descends

pub carried_clauses_keep_models : (order : Order) → CarriedClausesKeepModels order
carried_clauses_keep_models order q p policy limits start w es s r = (lawful order q p policy limits start w es s r).carries

pub tasks_are_accounted : (order : Order) → TasksAreAccounted order
tasks_are_accounted order q p policy limits start w es s r = (lawful order q p policy limits start w es s r).tasks

pub tokens_are_one : (order : Order) → TokensAreOne order
tokens_are_one order q p policy limits start w es s r = (lawful order q p policy limits start w es s r).token

pub lone_peers_send_nothing : (order : Order) → LonePeersSendNothing order
lone_peers_send_nothing order q p policy limits start w es s r = (lawful order q p policy limits start w es s r).lone
