-- The arrays and lists of a state by their tags, so that one read and one write serve them all.
use Rattle.std.specs.Prelude.{ℕ, ◌*◌, List, set}
use Rattle.parts.specs.Limits.{arity_max, cells_max, names_max, waiting_max, stuck_max, face_max}
use Rattle.model.specs.State.{St, Stack, stack, st}
use Rattle.state.specs.Layout.{waits_at, stucks_at, faces_at, symbols_at, arguments_at, names_at, waiting_at, stuck_at, face_at}
use Rattle.state.specs.declared.Part.{Part}
use Rattle.state.specs.declared.Part.TheVariants.{Symbols, Arguments, Names, Waiting, Stuck, Face}
use Rattle.state.specs.declared.Pile.{Pile}
use Rattle.state.specs.declared.Pile.TheVariants.{Waits, Stucks, Faces}

abbrev pub begins : Part → ℕ
begins Symbols = symbols_at
begins Arguments = arguments_at
begins Names = names_at
begins Waiting = waiting_at
begins Stuck = stuck_at
begins Face = face_at

abbrev pub size : Part → ℕ
size Symbols = cells_max
size Arguments = arity_max * cells_max
size Names = names_max
size Waiting = 2 * waiting_max
size Stuck = 2 * stuck_max
size Face = face_max

abbrev pub words : Part → St → List ℕ
words Symbols s = s.symbols
words Arguments s = s.arguments
words Names s = s.names
words Waiting s = s.waiting.words
words Stuck s = s.stuck.words
words Face s = s.face.words

abbrev pub with_words : Part → List ℕ → St → St
with_words Symbols l s = st l s.arguments s.names s.waiting s.stuck s.face s.loops
with_words Arguments l s = st s.symbols l s.names s.waiting s.stuck s.face s.loops
with_words Names l s = st s.symbols s.arguments l s.waiting s.stuck s.face s.loops
with_words Waiting l s = st s.symbols s.arguments s.names (stack l s.waiting.used) s.stuck s.face s.loops
with_words Stuck l s = st s.symbols s.arguments s.names s.waiting (stack l s.stuck.used) s.face s.loops
with_words Face l s = st s.symbols s.arguments s.names s.waiting s.stuck (stack l s.face.used) s.loops

-- One word set, and one count. Shut, so that a proof holds one against another by its name.
unfoldable pub stored : Part → ℕ → ℕ → St → St
stored p i v s = with_words p (set (words p s) i v) s

abbrev pub counted_at : Pile → ℕ
counted_at Waits = waits_at
counted_at Stucks = stucks_at
counted_at Faces = faces_at

abbrev pub pile : Pile → St → Stack
pile Waits s = s.waiting
pile Stucks s = s.stuck
pile Faces s = s.face

abbrev pub part_of : Pile → Part
part_of Waits = Waiting
part_of Stucks = Stuck
part_of Faces = Face

abbrev pub with_used : Pile → ℕ → St → St
with_used Waits n s = st s.symbols s.arguments s.names (stack s.waiting.words n) s.stuck s.face s.loops
with_used Stucks n s = st s.symbols s.arguments s.names s.waiting (stack s.stuck.words n) s.face s.loops
with_used Faces n s = st s.symbols s.arguments s.names s.waiting s.stuck (stack s.face.words n) s.loops

unfoldable pub counted : Pile → ℕ → St → St
counted p n s = with_used p n s

unfoldable pub looped : ℕ → St → St
looped n s = st s.symbols s.arguments s.names s.waiting s.stuck s.face n
