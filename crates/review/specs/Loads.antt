-- The loaded state of a net, as document 01 has it: "A loaded net is numbered so from 0, `face` first; its equations wait in
-- text order and the rest is empty."
use Rattle.std.specs.Prelude.{◌≡◌, List, [], ◌∷◌, map, ℕ, suc, ◌≤◌, ◌<◌, max, length, get_or}
use Rattle.model.specs.State.{St, listed, from}
use Rattle.model.specs.Table.{Table}
use Rattle.model.specs.Reading.{Reads, ReadsAll}
use Rattle.model.specs.Sound.{mem_of}
use Rattle.model.specs.Sound as Machine
use Rattle.texts.specs.Bytes.{Word, In}
use Rattle.texts.specs.Books.{Agent, Net, sides, cells_of, names_of, net_terms}
use Rattle.texts.specs.Coded.{packed}
use Rattle.texts.specs.Meaning.{trees, tree_equations}

-- Numbers as they are met, where those below m were met before: each is one of these, or the next.
abbrev pub FirstMet : ℕ → List ℕ → Type 0
FirstMet m [] = Unit {0}
FirstMet m (x ∷ l) = (x ≤ m) × FirstMet (max m (suc x)) l

-- The state s is the net n, loaded.
pub record LoadedSo (ags : List Agent) (T : Table) (n : Net) (s : St) : Type 0 where
  -- Each name of the text has a number, and no other name has it: from 0 on, as they are met in the text, `face` first.
  pub number : Word → ℕ
  pub apart : (v w : Word) → In v (names_of ags (net_terms n)) → In w (names_of ags (net_terms n)) → number v ≡ number w → v ≡ w
  pub names_met : FirstMet 0 (map number (names_of ags (net_terms n)))
  -- The interface is that of the text. Its cells are met in the order of their numbers, from 0 on, each once: a cell before
  -- those in its arguments, and these from left to right.
  pub face : Reads
      (mem_of T s)
      (Machine.sides s.face)
      (trees ags number (packed n.face))
      (from 0 (length (cells_of ags n.face)))
  -- The equations wait in text order, the first at the head, and the numbers of their cells go on from there.
  pub waiting : ReadsAll
      (mem_of T s)
      (listed s.waiting)
      (tree_equations ags number n.equations)
      (from (length (cells_of ags n.face)) (length (cells_of ags (sides n.equations))))
  -- No other cell is in use.
  pub cells_used : (c : ℕ) → c < length (cells_of ags (net_terms n)) → 0 < get_or s.symbols c 0
  pub cells_free : (c : ℕ) → length (cells_of ags (net_terms n)) ≤ c → get_or s.symbols c 0 ≡ 0
  -- Each name is bare: neither tied nor joined. No other name is in use.
  pub names_bare : (w : Word) → In w (names_of ags (net_terms n)) → get_or s.names (number w) 0 ≡ 1
  pub names_free : (x : ℕ) → ((w : Word) → In w (names_of ags (net_terms n)) → ¬ (number w ≡ x)) → get_or s.names x 0 ≡ 0
  -- Nothing is stuck, and there is no loop.
  pub nothing_stuck : s.stuck.used ≡ 0
  pub no_loop : s.loops ≡ 0
