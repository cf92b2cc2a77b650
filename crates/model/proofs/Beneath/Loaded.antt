-- A loaded net: its state is sound, and stands for the net.
use Rattle.std.specs.Prelude.{◌≡◌, ℕ, suc, ◌+◌, ◌*◌, ◌≤◌, ◌<◌, get_or}
use Rattle.std.proofs.Math.Path.{refl, ap}
use Rattle.std.proofs.Common.{sym, ◌∙◌, ap₂, subst, inr}
use mathlib.Core.List.{List, [], ◌++◌, map, append-nil}
use Rattle.std.proofs.Math.Decide.{dec_lt}
use native.Mathlib.Omega.{arith}
use Rattle.std.proofs.Math.ListN.{length, length-map, get_or-eq_default}
use Rattle.std.proofs.lemmas.List.Edits.{sets}
use Rattle.std.proofs.Math.Seq.{length-sets}
use Rattle.calculus.specs.Nets.{◌≈◌}
use Rattle.calculus.proofs.Beneath.Rename.{≈-alike}
use Rattle.calculus.proofs.Beneath.Sub.{≈of}
use Rattle.calculus.specs.Terms.{count, Conf}
use Rattle.parts.specs.Limits.{arity_max, face_max, cells_max, names_max, waiting_max, stuck_max}
use Rattle.parts.specs.Sides.{code}
use Rattle.model.specs.State.{St, unpack, pushed_all, listed, used, zeros, from}
use Rattle.model.specs.Table.{Table, no_cell}
use Rattle.model.specs.Reading.{Reads, ReadsAll, bonds, circles}
use Rattle.model.specs.Sound.{Mutual, width, mem_of, sides, pool, live, Sound, meaning}
use Rattle.model.specs.SoundTable.{SoundTable}
use Rattle.model.specs.Load.{loaded, Net}
use Rattle.model.specs.NetReads.{NetReads}
use Rattle.model.proofs.Beneath.Books.{one_reading}
use Rattle.model.proofs.Beneath.Cells.{frame, one_outcome}
use Rattle.model.proofs.Beneath.Cellwork.{copiedʷ, zerosʷ, declaredʷ}
use Rattle.model.proofs.Beneath.Facts.{zeros-length, zero_at, length-pushed_all, get_or-pushed_all}
use Rattle.model.proofs.Beneath.Facts.{unpack-pushed_all}
use Rattle.model.proofs.Beneath.Frame.{Framed, sound_of}
use Rattle.model.proofs.Beneath.Fresh.{bonds_new, mutual_new}
use Rattle.model.proofs.Beneath.Picks.{frame_all}
use Rattle.model.proofs.Beneath.Pool.{Good}
use Rattle.model.proofs.Beneath.Store.{Free, length-bare, live-bare, Small, write_symbols-length}
use Rattle.model.proofs.Beneath.Store.{write_arguments-length, live_written, used-written, sets_other, sets_at}
use Rattle.model.proofs.Beneath.Store.{sides-are}
use Rattle.model.proofs.Beneath.Froms.{from-length, from_at, from-count, from-free}

no_bonds : (i n : ℕ) → bonds i (zeros n) ≡ []
no_bonds i ℕ.zero = refl
no_bonds i (ℕ.suc n) = no_bonds (suc i) n

module _ {T : Table} (h : SoundTable T) {N : Net} {C : Conf} (r : NetReads T N C) where
  abbrev ps : List ℕ
  ps = from 0 (length N.cells)

  free-cells : Free (from 0 (length N.cells)) (zeros cells_max)
  free-cells = from-free (length N.cells) cells_max r.few_cells

  free_names : Free (from 0 N.names) (zeros names_max)
  free_names = from-free N.names names_max r.few_names

  many : length (from 0 (length N.cells)) ≡ length N.cells
  many = from-length 0 (length N.cells)

  size : length (zeros (4 * cells_max)) ≡ 4 * length (zeros cells_max)
  size = omega (arith, zeros-length (4 * cells_max), zeros-length cells_max)

  small : Small N.cells
  small j = by (dec_lt j (length N.cells))
    where
      by : Dec (j < length N.cells) → length (get_or N.cells j no_cell).args ≤ 4
      by (yes o) = omega (arith, (r.declared j o).args, h.arities (get_or N.cells j no_cell).symbol)
      by (no o) = omega (arith, ap (λ c. length c.args) (get_or-eq_default N.cells no_cell {n = j} (omega arith)))

  fit : (j : ℕ) → j < length N.cells
      → length (get_or N.cells j no_cell).args ≡ get_or T.arities (get_or N.cells j no_cell).symbol 0
  fit j o = (r.declared j o).args

  blank : (c i : ℕ) → i < 4 → width T.arities (get_or (zeros cells_max) c 0) ≤ i
      → get_or (zeros (4 * cells_max)) (4 * c + i) 0 ≡ 0
  blank c i o w = zero_at (4 * cells_max) (4 * c + i)

  -- What is in the state.
  pub cell_is : (c : ℕ) → c < length N.cells → mem_of T (loaded N) c ≡ get_or N.cells c no_cell
  unfolding loaded
  cell_is c o =
      ap (mem_of T (loaded N)) (sym (from_at 0 (length N.cells) c o ∙ (let e : 0 + c ≡ c = omega arith in e)))
      ∙ copiedʷ T.arities (zeros cells_max) (zeros (4 * cells_max)) size h.arities blank ps N.cells free-cells many small fit c o

  pub face_is : sides (loaded N).face ≡ N.face
  unfolding loaded
  face_is =
      sides-are
      N.face
      (sets (zeros face_max) 0 (map code N.face))
      (omega (arith, r.few_faces, length-sets (zeros face_max) 0 (map code N.face), zeros-length face_max))
      (λ i o.
      sets_at
      (map code N.face)
      (zeros face_max)
      0
      i
      i
      (omega arith)
      (omega (arith, length-map N.face code))
      (omega (arith, r.few_faces, zeros-length face_max, length-map N.face code)))

  pub waiting_is : listed (loaded N).waiting ≡ N.equations
  unfolding loaded
  waiting_is =
      let e : length N.equations ≡ 0 + length N.equations = omega arith in
      ap (λ n. unpack n (pushed_all 0 N.equations (zeros (2 * waiting_max)))) e
      ∙ unpack-pushed_all 0 N.equations (zeros (2 * waiting_max)) (omega (arith, r.few_equations, zeros-length (2 * waiting_max)))
      ∙ append-nil N.equations

  pub live-cells : (c : ℕ) → live (loaded N).symbols c ≡ count c (from 0 (length N.cells))
  unfolding loaded
  live-cells c = live_written ps N.cells (zeros cells_max) free-cells many c ∙ omega (arith, zero_at cells_max c)

  pub live-names : (x : ℕ) → live (loaded N).names x ≡ count x (from 0 N.names)
  unfolding loaded
  live-names x = live-bare (from 0 N.names) (zeros names_max) free_names x ∙ omega (arith, zero_at names_max x)

  pub load_sound : Sound T (loaded N)
  unfolding loaded
  load_sound = sound_of framed (mutual_new (from 0 N.names) (zeros names_max) free_names no_joins) good
    where
      no_joins : Mutual (zeros names_max)
      no_joins x y e = absurd (omega (arith, e, zero_at names_max x))

      met : (c : ℕ) → 0 < count c r.c₀ + count c r.c₁ → c < length N.cells
      met c o = let p = from-count 0 (length N.cells) c (omega (arith, o, r.once c)) in omega (arith, p.1)

      pool_is : pool (loaded N) ≡ N.equations
      pool_is =
          ap₂
          (λ w b. w ++ (b ++ []))
          waiting_is
          (bonds_new (from 0 N.names) (zeros names_max) free_names ∙ no_bonds 0 names_max)
          ∙ append-nil N.equations

      good : Good (mem_of T (loaded N)) (live (loaded N).symbols) (sides (loaded N).face) (pool (loaded N)) (loaded N).names
      good =
          record {
            terms = C.face;
            eqs = C.eqs;
            c₀ = r.c₀;
            c₁ = r.c₁;
            face_reads = subst (λ l. Reads (mem_of T (loaded N)) l C.face r.c₀) (sym face_is) (frame (λ c o. cell_is c (met c (omega arith))) r.face);
            pool_reads = subst (λ l. ReadsAll (mem_of T (loaded N)) l C.eqs r.c₁) (sym pool_is) (frame_all (λ c o. cell_is c (met c (omega arith))) r.equations);
            cells = λ c. omega (arith, r.once c, live-cells c);
            twice = λ x. omega (arith, r.twice x, live-names x);
          }

      framed : Framed T (loaded N)
      framed =
          record {
            sizes =
                record {
                  symbols = write_symbols-length ps N.cells (zeros cells_max) ∙ zeros-length cells_max;
                  arguments = write_arguments-length ps N.cells (zeros (4 * cells_max)) ∙ zeros-length (4 * cells_max);
                  names = length-bare (from 0 N.names) (zeros names_max) ∙ zeros-length names_max;
                  waiting = length-pushed_all 0 N.equations (zeros (2 * waiting_max)) ∙ zeros-length (2 * waiting_max);
                  stuck = zeros-length (2 * stuck_max);
                  face = length-sets (zeros face_max) 0 (map code N.face) ∙ zeros-length face_max;
                  waits = r.few_equations;
                  stucks = omega arith;
                  faces = r.few_faces;
                  loops = omega arith;
                };
            zeros =
                record {
                  arguments = zerosʷ T.arities (zeros cells_max) (zeros (4 * cells_max)) size h.arities blank ps N.cells free-cells many small fit;
                  waiting = λ i o. get_or-pushed_all 0 N.equations (zeros (2 * waiting_max)) i (omega arith) ∙ zero_at (2 * waiting_max) i;
                  stuck = λ i o. zero_at (2 * stuck_max) i;
                  face = λ i o. sets_other (map code N.face) (zeros face_max) 0 i (inr (omega (arith, length-map N.face code))) ∙ zero_at face_max i;
                };
            declared =
                declaredʷ
                T.arities
                (zeros cells_max)
                (zeros (arity_max * cells_max))
                size
                h.arities
                blank
                ps
                N.cells
                free-cells
                many
                small
                fit
                (length T.arities)
                (λ c. omega (arith, zero_at cells_max c))
                (λ j o. (r.declared j o).symbol);
            stuck = tt;
          }

  pub load-means : meaning load_sound ≈ C
  unfolding load_sound loaded
  load-means = ≈-alike refl (≈of (append-nil C.eqs))

  -- The cells in use after a load.
  pub load_cells : used (loaded N).symbols ≡ length N.cells
  unfolding loaded
  load_cells =
      omega (
        arith,
        used-written ps N.cells (zeros cells_max) free-cells many,
        many,
        none_used cells_max,
      )
    where
      none_used : (n : ℕ) → used (zeros n) ≡ 0
      none_used ℕ.zero = refl
      none_used (ℕ.suc n) = omega (arith, none_used n)

pub one_meaning : {T : Table} {st : St} (s s' : Sound T st) → meaning s ≡ meaning s'
one_meaning {T} {st} s s' =
    ap₂
    (λ t e. record { face = t; eqs = e ++ circles names_max st.loops })
    (one_outcome s.reads.face_reads s'.reads.face_reads).the_terms
    (one_reading s.reads.pool_reads s'.reads.pool_reads)
