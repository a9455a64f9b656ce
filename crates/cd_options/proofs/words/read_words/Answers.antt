use Rattle.std.proofs.Common.{◌≡◌, ◌∙◌, ap, subst, List, map, codes, ℕ, Option, option_map}
use Rattle.std.specs.Borrow.{Bor}
use Rattle.cd_options.specs.Grammar.{Spells}
use Rattle.cd_options.specs.Options.{Values}
use Rattle.cd_options.specs.Program.{option_names}
use Rattle.cd_options.proofs.Asking.{Spelled, asked_are_spelled, spelled_are_asked}
use Rattle.cd_options.proofs.words.read_words.Goals as goal

abbrev read : Option (Bor (List ℕ)) → Option (List ℕ)
read = option_map (λ t. t.now)

abbrev values : goal.After-drop-lent → Values
values c = record {
  peers = read c.get_str.result;
  steps = read c.get_str-in-Ok-matched.result;
  allocate = read c.get_str-in-Ok-matched-2.result;
  schedule = read c.get_str-in-Ok-matched-3.result;
  grid = read c.get_str-in-Ok-matched-4.result;
  file = read c.get_str-in-Ok-matched-5.result;
}

spelled : (c : goal.After-drop-lent) → Spelled c.args.words.now (values c)
spelled c =
    let ok = c.in-Ok-matched.ensures.ok in
    let words : map (λ (w : Bor (List ℕ)). w.now) c.as_slice.result.now ≡ c.args.words.now
    = ap (map (λ (w : Bor (List ℕ)). w.now)) c.as_slice.ensures.value ∙ c.in-Ok.ensures.same in
    record {
      given = ok.0;
      spells = subst (λ (ws : List (List ℕ)). Spells option_names ws ok.0) words ok.1;
      once = ok.2;
      values = λ i. record {
        peers = (c.get_str.ensures ∙ ok.3 (codes "peers")) i;
        steps = (c.get_str-in-Ok-matched.ensures ∙ ok.3 (codes "steps")) i;
        allocate = (c.get_str-in-Ok-matched-2.ensures ∙ ok.3 (codes "allocate")) i;
        schedule = (c.get_str-in-Ok-matched-3.ensures ∙ ok.3 (codes "schedule")) i;
        grid = (c.get_str-in-Ok-matched-4.ensures ∙ ok.3 (codes "grid")) i;
        file = (c.get_str-in-Ok-matched-5.ensures ∙ ok.3 (codes "file")) i;
      };
    }

pub returns-in-Ok-matched-clause-ok : goal.returns-in-Ok-matched-clause-ok
returns-in-Ok-matched-clause-ok c = asked_are_spelled c.args.words.now (values c) c.asked.result (spelled c) c.asked.ensures.ok

pub returns-in-Ok-matched-clause-usage : goal.returns-in-Ok-matched-clause-usage
returns-in-Ok-matched-clause-usage c = λ e o s. c.asked.ensures.usage e o (spelled_are_asked c.args.words.now (values c) o (spelled c) s)
