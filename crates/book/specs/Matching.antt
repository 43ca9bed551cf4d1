-- An order that comes to the other side, as the rules see it.
use Rattle.rules.specs.Meeting as rules
use Rattle.book.specs.declared.matching.Incoming.{Incoming}

abbrev pub incoming_of : Incoming → rules.Incoming
incoming_of i = record { number = i.number; limit = i.limit; rested = i.rested }
