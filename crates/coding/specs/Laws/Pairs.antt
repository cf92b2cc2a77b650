-- Number 9 by the look-up of a pair of symbols.
use Rattle.std.specs.Prelude.{◌≡◌}
use Rattle.texts.specs.Bytes.{any, In}
use Rattle.texts.specs.Books.{Book, is_rule}
use Rattle.texts.specs.Books as Books
use Rattle.texts.specs.RuleText.{fault9}
use Rattle.texts.specs.Coded.{template, table_of}
use Rattle.texts.specs.TableTest.{pair_test}
use Rattle.texts.specs.RuleSound.{SoundRule}
use Rattle.texts.proofs.Beneath.PairTable.{pair-table}

-- Number 9 is given exactly where the table of the book has the pair.
pub pair-fault : (b : Book) (r : Books.Rule) → SoundRule b.agents r → ((q : Books.Rule) → In q b.rules → SoundRule b.agents q)
    → any (pair_test (template b.agents r).left (template b.agents r).right) (table_of b).rules ≡ fault9 b (is_rule r)
unfolding template table_of fault9
pair-fault b r s h = pair-table b.agents r b.rules s.named.first_agent s.named.second_agent h
