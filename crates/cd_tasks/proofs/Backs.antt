-- What is owed stays a back of the order.
use Rattle.std.proofs.Common.{◌∙◌, List, [], ◌∷◌, ◌++◌, map, filter, refl, sym, ap, append_assoc}
use Rattle.cd_names.specs.declared.names.Name.{Name}
use Rattle.cd_tasks.specs.declared.Task.{Task}
use Rattle.cd_tasks.specs.declared.Arrival.{Arrival}
use Rattle.cd_tasks.specs.declared.cursor.Stage.TheVariants.{Alone}
use Rattle.cd_tasks.specs.Order.{tasks_at, task_order, owed_of, IsBackOf}
use Rattle.cd_tasks.specs.Owing.{free_of, cover_one}
use Rattle.cd_tasks.proofs.Covering.{filter_app, order_more, order_covered}

pub none_back : IsBackOf (owed_of [] 0 Alone) (task_order [])
unfolding owed_of
none_back = ([], refl)

-- a new arrival's tasks stand behind both
pub back_more : (es : List Arrival) (a : Arrival) (owed : List Task) → IsBackOf owed (task_order es) → IsBackOf (owed ++ tasks_at a es) (task_order (es ++ a ∷ []))
back_more es a owed (f, e) =
    (f, order_more [] es a ∙ ap (λ (l : List Task). l ++ tasks_at a es) e ∙ append_assoc f owed (tasks_at a es))

-- a covered name is taken out of both
pub back_covered : (n : Name) (es : List Arrival) (owed : List Task) → IsBackOf owed (task_order es) → IsBackOf (filter (free_of n) owed) (task_order (map (cover_one n) es))
back_covered n es owed (f, e) =
    (filter (free_of n) f, order_covered n [] es ∙ ap (filter (free_of n)) e ∙ filter_app (free_of n) f owed)

-- what is behind a first one
pub back_next : (t : Task) (owed all : List Task) → IsBackOf (t ∷ owed) all → IsBackOf owed all
back_next t owed all (f, e) = (f ++ t ∷ [], e ∙ sym (append_assoc f (t ∷ []) owed))
