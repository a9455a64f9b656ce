-- What holds of the state of a peer that hasn't fallen.
-- Beyond the headline: no clause of `prove` reaches this file.
use Rattle.cd_acts.specs.Indexed.{IsIndexed}
use Rattle.cd_acts.specs.View.{local_of}
use Rattle.cd_acts.specs.declared.state.State.{State}
use Rattle.cd_alone.specs.Going.{Going}
use Rattle.cd_kbo.specs.declared.order.Order.{Order}
use Rattle.cd_read.specs.declared.problem.Problem.{Problem}

-- what stands beside the known records is theirs; and what holds of one peer at each moment, whatever letters it is given
pub record IsWhole (order : Order) (p : Problem) (s : State) : Type 0 where
  pub indexed : IsIndexed s
  pub going : Going order p (local_of s)
