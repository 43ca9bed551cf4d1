use Rattle.book.proofs.call.Phase.resting.Goals as goal

pub returns-in-Waiting : goal.returns-in-Waiting
returns-in-Waiting g c = rw c.in-Waiting.is (record { by_rule = c.resting.ensures.by_rule; day = c.resting.ensures.day })

pub returns-in-Trading : goal.returns-in-Trading
returns-in-Trading g c = rw c.in-Trading.is (record { by_rule = c.resting-in-Trading.ensures.by_rule; day = c.resting-in-Trading.ensures.day })

pub returns-in-Halted : goal.returns-in-Halted
returns-in-Halted g c = rw c.in-Halted.is (record { by_rule = c.resting-in-Halted.ensures.by_rule; day = c.resting-in-Halted.ensures.day })

pub returns-in-Closed : goal.returns-in-Closed
returns-in-Closed g c = rw c.in-Closed.is (record { by_rule = c.resting-in-Closed.ensures.by_rule; day = c.resting-in-Closed.ensures.day })
