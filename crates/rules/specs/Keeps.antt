-- What every call of a book keeps: the day, its laws, and what the call's own outcome says.
use Rattle.std.specs.Prelude.{◌≡◌, List, ◌∷◌}
use Rattle.terms.specs.declared.trade.Trade.{Trade}
use Rattle.rules.specs.Accounts.{Accounted}
use Rattle.rules.specs.Book.{Answers, Book, resting_lots}
use Rattle.rules.specs.Calls.{Call, Outcome, refused, answered, lots, Event}
use Rattle.rules.specs.Fills.{Filling}
use Rattle.rules.specs.Laws.{Lawful}
use Rattle.rules.specs.Ledger.{Entries, ledger}
use Rattle.rules.specs.Reasons.{Reasoned}
use Rattle.rules.specs.Rules.{Day}

-- an answer counts its trades, the queues and the ledger, and an order meets the first of the other side; the pair is what rests
abbrev pub Explained : Outcome → Call → List Trade → Entries → Entries → Book → Book → Type 0
Explained (refused r) c ts l l' b b' = Unit {0}
Explained (answered a) c ts l l' b b' = Accounted c a ts l l' b' × Filling c b ts b'
Explained (lots m n) c ts l l' b b' = (m ≡ resting_lots b.buys.elements) × (n ≡ resting_lots b.sells.elements)

pub record Keeps (b : Book) (e : Event) (b' : Book) : Type 0 where
  -- whatever day led to the book, with the event it leads to the book after it
  pub day : (ρ : Answers) (h : List Event) → Day ρ h b → Day ρ (e ∷ h) b'
  -- the three laws hold of that day
  pub lawful : (ρ : Answers) (h : List Event) → Day ρ h b → Lawful ρ (e ∷ h) b'
  -- the call was refused just where a reason holds, for the one with the lowest number
  pub reasoned : Reasoned e.call b e.outcome
  pub explained : (ρ : Answers) (h : List Event) → Day ρ h b → Explained e.outcome e.call e.trades (ledger ρ h).entry (ledger ρ (e ∷ h)).entry b b'
