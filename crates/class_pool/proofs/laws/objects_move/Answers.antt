use Rattle.class_pool.proofs.WeightLaws.{stored_weighs, made_weighs, freed_weighs, changed_weighs, moved_weighs, part_weighs}
use Rattle.class_pool.proofs.laws.objects_move.Goals as goal

pub returns-clause-stored : goal.returns-clause-stored
returns-clause-stored c p q handle bytes id ix cells cell s =
    stored_weighs p q handle bytes id ix cells cell s

pub returns-clause-made : goal.returns-clause-made
returns-clause-made c p q handle bytes id cell some s = made_weighs p q handle bytes id cell some s

pub returns-clause-freed : goal.returns-clause-freed
returns-clause-freed c p q handle id ix frames cells u at s =
    freed_weighs p q handle id ix frames cells u at s

pub returns-clause-changed : goal.returns-clause-changed
returns-clause-changed c p handle id ix cells u v at = changed_weighs p handle id ix cells u v at

pub returns-clause-moved : goal.returns-clause-moved
returns-clause-moved c p q m frames s = moved_weighs p q m frames s

pub returns-clause-part : goal.returns-clause-part
returns-clause-part c p handle id ix cells u at f = part_weighs p handle id ix cells u at f
