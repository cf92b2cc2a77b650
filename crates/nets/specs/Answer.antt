-- The call that reads a net text: what it answers, and what the lent state is afterwards.
use Rattle.std.specs.Prelude.{ℕ, Bool, ◌&&◌, List, Result, Ok, Err, ⊤}
use Rattle.parts.specs.Faults.{fault_number}
use Rattle.parts.specs.declared.faults.Refusal.{Refusal}
use Rattle.model.specs.State.{St}
use Rattle.model.specs.Load.{loaded}
use Rattle.texts.specs.Bytes.{same}
use Rattle.texts.specs.Books.{Agent, Net}
use Rattle.texts.specs.Answers.{OfText, accepted, refused}
use Rattle.texts.specs.NetText.{net_read}
use Rattle.texts.specs.Coded.{load}
use Rattle.texts.specs.TableTest.{test_table}
use Rattle.table.specs.Layout.{agents_in, bytes_of, view}

-- The text was accepted, and the state is filled; or it was refused with this number on this line, and the state is as it was.
pub data Call : Type 0 where
  filled : St → Call
  kept : (number line : ℕ) → St → Call

-- What an answer says, beside the state at exit.
abbrev pub told : Result ⊤ Refusal → St → Call
told (Ok u) s = filled s
told (Err r) s = kept (fault_number r.fault) r.line s

-- "A sound table is one that some rule text would give if its length had no limit": its bytes are those of a table that passes the test.
unfoldable pub sound_table : List ℕ → Bool
sound_table w = test_table (view w) && same w (bytes_of (view w))

unfoldable pub call_by : List Agent → St → OfText Net → Call
call_by ags s (accepted n) = filled (loaded (load ags n))
call_by ags s (refused number line) = kept number line s

-- The call, of the text, the table's bytes and the state at entry.
unfoldable pub net_call : List ℕ → List ℕ → St → Call
net_call text w s = call_by (agents_in w) s (net_read (sound_table w) (agents_in w) text)
