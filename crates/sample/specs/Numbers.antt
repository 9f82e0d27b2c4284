-- The numbers that the edits of a sample are drawn from.
use Rattle.std.specs.Prelude.{ℕ, ◌+◌, ◌*◌, ◌/◌, ◌%◌, ◌^◌}

-- the state after a draw
unfoldable pub next_state : ℕ → ℕ
next_state state = (state * 6364136223846793005 + 1442695040888963407) % 2 ^ 64

-- the number that a draw gives, by the state after it
abbrev pub drawn : ℕ → ℕ
drawn state = state / 2 ^ 33
