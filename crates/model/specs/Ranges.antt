-- A side in use.
use Rattle.std.specs.Prelude.{get_or}
use Prim.Native.Nat.{◌<◌}
use Rattle.parts.specs.Limits.{cells_max, names_max}
use Rattle.parts.specs.Sides.{Side, name, cell}
use Rattle.model.specs.State.{St}

-- A side in use.
abbrev pub LiveSide : St → Side → Type 0
LiveSide st (name x) = (x < names_max) × (0 < get_or st.names x 0)
LiveSide st (cell c) = (c < cells_max) × (0 < get_or st.symbols c 0)
