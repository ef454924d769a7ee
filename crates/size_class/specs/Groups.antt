-- The fullness groups of zspages: 0 for an empty one, 11 for a full one, and ten groups of a tenth
-- each between.
use Rattle.std.specs.Prelude.{ℕ, ◌+◌, ◌*◌, ◌/◌, ◌==◌, if◌then◌else◌}

-- the fullness group of a zspage with so many of its cells used
abbrev pub group_of : ℕ → ℕ → ℕ
group_of used per = if used == 0 then 0 else if used == per then 11 else (100 * used / per / 10 + 1)
