use Rattle.std.proofs.Common.{◌≡◌, ◌-◌, ◌≤◌, IfSome}
use Rattle.day.proofs.flow.Flow.next_line.Given as goal

abbrev pub invariant-loop-self : goal.invariant-loop-self
invariant-loop-self g l = IfSome l.seen (λ s. (l.self.from ≤ s.next) × (s.next ≤ l.self.to)) × (l.self.output ≡ l.initial.self.output)

abbrev pub decreases-loop-self : goal.decreases-loop-self
decreases-loop-self g l = 57 - (l.self.to - l.self.from)
