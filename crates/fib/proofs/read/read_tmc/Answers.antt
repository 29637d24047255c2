-- The FIG reader's answer, into the first cells of both buffers.
use Prim.Native.Nat.{ℕ, ◌≤◌}
use native.Mathlib.Omega.{arith}
use mathlib.Core.Path.{◌≡◌, sym, ap, ap₂, ◌∙◌}
use mathlib.Core.List.{List, ◌++◌}
use lib.ListN.{length, drop, replicate}
use lib.Seq.{length-take-le}
use Rattle.std.specs.Prelude.{Result, Ok}
use Rattle.refusal.specs.declared.Refusal.{Refusal}
use Rattle.fig.specs.declared.Reading.{Reading}
use Rattle.fig.specs.Read.{read_fig}
use Rattle.fig.proofs.Answers.{taken-room, taken_ranges}
use Rattle.fib.specs.Walk.{carried}
use Rattle.fib.specs.Read.{origin_of, room_in, words_after, origins_after}
use Rattle.fib.proofs.Carrying.{counted, given, count_taken, origins-taken, cells-refused, room_fits, told, told-words}
use Rattle.fib.proofs.read.read_tmc.Goals as goal
use Rattle.fib.proofs.read.read_tmc.Goals.{After-read, In_ok-reading}

-- what the reader answers with the room of both buffers
answer : (c : After-read) → c.read.result ≡ read_fig c.args.f.now (room_in c.args.words.now c.args.origins.now)
answer c =
    let a = c.args in
    told a.f.now a.words.now a.origins.now c.min-room.result c.min-room.ensures c.read.result c.read.ensures.value

words_put : (c : After-read) → ◌≡◌ {A = List ℕ} (c.read.new.out ++ drop c.min-room.result c.args.words.now) (words_after (given (carried (read_fig c.args.f.now (room_in c.args.words.now c.args.origins.now)) c.args.f.now)) c.args.words.now)
words_put c =
    let a = c.args in
    told-words a.f.now a.words.now a.origins.now c.min-room.result c.min-room.ensures c.read.result c.read.ensures.value c.read.new.out c.read.ensures.out_after

-- a FIG that was read
read : (c : In_ok-reading) → read_fig c.args.f.now (room_in c.args.words.now c.args.origins.now) ≡ Ok c.in_ok-reading.reading
read c = sym (answer (goal.at.In_ok-reading c).After-read) ∙ c.in_ok-reading.was

count_fits : (c : In_ok-reading) → c.in_ok-reading.reading.count ≤ length c.args.origins.now
count_fits c =
    let a = c.args in
    omega (arith, taken-room a.f.now _ _ (read c), room_fits a.words.now a.origins.now)

pub returns-in_err-reading-clause-words_after : goal.returns-in_err-reading-clause-words_after
returns-in_err-reading-clause-words_after c = words_put (goal.at.returns-in_err-reading-clause-words_after c).After-read

pub returns-in_err-reading-clause-origins_after : goal.returns-in_err-reading-clause-origins_after
returns-in_err-reading-clause-origins_after c =
    let a = c.args in
    let refused = sym (answer (goal.at.returns-in_err-reading-clause-origins_after c).After-read) ∙ c.in_err-reading.was in
    sym (cells-refused (λ w. origin_of w.fig) _ a.f.now a.origins.now)
    ∙ ap (λ (x : Result Reading Refusal). origins_after (given (carried x a.f.now)) a.origins.now) (sym refused)

pub slice_bounds-fill-end : goal.slice_bounds-fill-end
slice_bounds-fill-end c = count_fits (goal.at.slice_bounds-fill-end c).In_ok-reading

pub slice_bounds-fill-end-2 : goal.slice_bounds-fill-end-2
slice_bounds-fill-end-2 c = sym (length-take-le c.in_ok-reading.reading.count c.args.origins.now (count_fits (goal.at.slice_bounds-fill-end-2 c).In_ok-reading))

pub origin-requires : goal.origin-requires
origin-requires c = taken_ranges c.args.f.now _ _ (read (goal.at.origin-requires c).In_ok-reading)

pub returns-clause-value : goal.returns-clause-value
returns-clause-value c =
    let f = c.args.f.now in
    sym (count_taken c.in_ok-reading.reading f)
    ∙ ap (λ (x : Result Reading Refusal). counted (carried x f)) (sym (read (goal.at.returns-clause-value c).In_ok-reading))

pub returns-clause-words_after : goal.returns-clause-words_after
returns-clause-words_after c = words_put (goal.at.returns-clause-words_after c).After-read

pub returns-clause-origins_after : goal.returns-clause-origins_after
returns-clause-origins_after c =
    let a = c.args in
    let x = (goal.at.returns-clause-origins_after c).In_ok-reading in
    let r = c.in_ok-reading.reading in
    ap (λ (l : List ℕ). l ++ drop r.count a.origins.now)
    (c.fill.ensures.after (λ y e. e) ∙ ap₂ (λ (m v : ℕ). replicate m v) (length-take-le r.count a.origins.now (count_fits x)) c.origin.ensures)
    ∙ sym (origins-taken r a.f.now a.origins.now)
    ∙ ap (λ (y : Result Reading Refusal). origins_after (given (carried y a.f.now)) a.origins.now) (sym (read x))
