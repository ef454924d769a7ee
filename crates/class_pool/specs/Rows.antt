-- The zspages of a class as the plan of compaction reads them.
use Rattle.std.specs.Prelude.{ℕ, ◌+◌, List, [], ◌∷◌, Option, None, Some, nat_lt}
use Rattle.zspage.specs.Cells.{used_of, home_of}
use Rattle.zs_plan.specs.declared.Row.{Row}
use Rattle.class_pool.specs.Zspages.{Cells}

-- the row of a zspage: its used cells, and whether one of them is at home
abbrev pub row_of : ℕ → Cells → Row
row_of id cells = record { id = id; used = used_of cells; movable = nat_lt 0 (home_of cells) }

-- the row of the zspage with an id, where there is one
abbrev pub row_at : ℕ → Option Cells → Option Row
row_at id None = None
row_at id (Some cells) = Some (row_of id cells)

-- the rows of zspages whose ids begin at a number
abbrev pub rows_from : ℕ → List (Option Cells) → List Row
rows_from id [] = []
rows_from id (None ∷ zspages) = rows_from (id + 1) zspages
rows_from id (Some cells ∷ zspages) = row_of id cells ∷ rows_from (id + 1) zspages

-- the rows of the zspages that are there, by rising ids
abbrev pub rows : List (Option Cells) → List Row
rows zspages = rows_from 0 zspages
