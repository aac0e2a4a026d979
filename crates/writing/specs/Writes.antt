-- What is written into a lent buffer.
-- Assumes nothing.
use Rattle.std.specs.Prelude.{◌≡◌, ℕ, ◌+◌, ◌≤◌, List, length}
use Rattle.writing.specs.declared.buffer.Buffer.{Buffer}
use Rattle.writing.specs.Filled.{over}

-- the bytes fit behind the place
abbrev pub HasRoom : Buffer → List ℕ → Type 0
HasRoom b ws = b.place + length ws ≤ length b.bytes.now

-- the bytes stand in the same lent buffer in place of those from the place on, and the place is behind them
pub record Writes (b : Buffer) (ws : List ℕ) (c : Buffer) : Type 0 where
  pub lent : c.bytes.ghost_name ≡ b.bytes.ghost_name
  pub bytes : c.bytes.now ≡ over b.bytes.now b.place ws
  pub place : c.place ≡ b.place + length ws
