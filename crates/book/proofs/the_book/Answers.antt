-- `book::the_book` meets its contract: the constant is the book, all of it, by one computation.
use mathlib.Core.Path.{refl}
use Rattle.law.specs.Sums.{ceil, bits_to}
use Rattle.law.specs.Pattern.{mandatory, word, shelf, book_to, the_book}
use Rattle.book.proofs.the_book.Goals as goal

pub returns : goal.returns
unfolding the_book book_to shelf word bits_to mandatory ceil
returns c = refl
