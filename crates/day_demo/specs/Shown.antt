-- A day that led to a book.
use Rattle.std.specs.Prelude.{List}
use Rattle.rules.specs.Book.{Answers, Book}
use Rattle.rules.specs.Calls.{Event}
use Rattle.rules.specs.Laws.{Lawful}
use Rattle.rules.specs.Rules.{Day}

-- some events since the opening led here, and the three laws hold of them
pub record Shown (range : Answers) (b : Book) : Type 0 where
  pub events : List Event
  pub day : Day range events b
  pub lawful : Lawful range events b
