-- How many codes and cells terms and more terms have.
use Rattle.std.specs.Prelude.{ℕ, ◌+◌, ◌≡◌, List, ◌++◌, length}
use Rattle.std.proofs.Common.{ap, ◌∙◌, length-append}
use Rattle.texts.specs.Bytes.{Word, keep}
use Rattle.texts.specs.Terms.{Term, nodes, words_of}
use Rattle.texts.specs.Books.{Agent, declared, cells_of}
use Rattle.texts.specs.Coded.{packed, codes}
use Rattle.texts.proofs.Beneath.Tools.{keep_append}
use Rattle.texts.proofs.Beneath.NetMeans.{nodes-append}
use Rattle.texts.proofs.Beneath.Linear.{words_append}
use Rattle.texts.proofs.Beneath.TableSound.{codes-length as codes-count, packed-count}

pub codes-length : (ags : List Agent) (number : Word → ℕ) (ts : List Term) (m : ℕ) → length (codes ags number m (packed ts)) ≡ length ts
codes-length ags number ts m = codes-count ags number (packed ts) m ∙ packed-count ts

pub cells-both : (ags : List Agent) (ts us : List Term) → length (cells_of ags (ts ++ us)) ≡ length (cells_of ags ts) + length (cells_of ags us)
unfolding cells_of
cells-both ags ts us =
    ap length (ap (keep (declared ags)) (ap words_of (nodes-append ts us) ∙ words_append (nodes ts) (nodes us)) ∙ keep_append (declared ags) (words_of (nodes ts)) (words_of (nodes us)))
    ∙ length-append (keep (declared ags) (words_of (nodes ts))) (keep (declared ags) (words_of (nodes us)))
