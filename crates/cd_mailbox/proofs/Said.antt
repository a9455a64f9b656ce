-- What the rule of a mailbox says of any two passes.
use Rattle.std.proofs.Common.{◌≡◌, ℕ, true, All, ◌++◌, sym, ap, ◌∙◌, subst}
use Rattle.cd_mailbox.specs.Views.{letters_of, has}
use Rattle.cd_mailbox.specs.Rule.{IsFor}
use Rattle.cd_mailbox.specs.Laws.{NumbersAreHeldOnce, TakenThenHeldIsPosted, LettersAreAddressed}

module _ {L : Type 0} (sender receiver : L → ℕ) where
  pub held_once : NumbersAreHeldOnce sender receiver
  held_once letters views rule i j n v w here there mine theirs = sym ((rule.fits i v here).alone n mine) ∙ (rule.fits j w there).alone n theirs

  pub in_order : TakenThenHeldIsPosted sender receiver
  in_order letters views rule i j p v w here there own theirs =
      let mine = rule.fits i v here in
      let got = mine.got (subst (λ n. has n v ≡ true) (mine.mailbox v.owner own).1 own) in
      ap (λ r. letters_of sender p r ++ letters_of sender p letters) got ∙ rule.balance p ∙ sym ((rule.fits j w there).sent p theirs)

  pub addressed : LettersAreAddressed sender receiver
  addressed letters views rule i n v here mine =
      let m = (rule.fits i v here).mailbox n mine in
      subst (λ (y : ℕ × ℕ). All (IsFor sender receiver y.0 y.1) letters) (λ k. (sym m.0 k, sym m.1 k)) rule.addressed
