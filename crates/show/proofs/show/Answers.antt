-- `show::show` meets its contract: the reading's line, or what the rows that were read print. Assumes nothing.
use mathlib.Core.Path.{◌≡◌, sym, ap, ◌∙◌}
use mathlib.Core.List.{List}
use Prim.Native.Nat.{ℕ, ◌≤◌}
use lib.ListN.{length}
use Rattle.meaning.specs.Words.{zeros}
use Rattle.meaning.specs.Rows.{Tables}
use Rattle.meaning.specs.Answer.{done, stored_limits}
use Rattle.meaning.specs.Lent.{Counts}
use Rattle.meaning.specs.Files.{reading}
use Rattle.stored.specs.Answers.{read_of}
use Rattle.stored.specs.declared.Rows.{Rows}
use Rattle.std.specs.Prelude.{Result}
use Rattle.meaning.specs.declared.Refusal.{Refusal}
use Rattle.stored.specs.declared.Contents.{Contents}
use Rattle.meaning.specs.Shown.{blank, Long}
use Rattle.show.proofs.Printing.{printed_as, read_listed, read_refused}
use Rattle.show.proofs.Keeping.{read_long}
use Rattle.show.proofs.show.Goals as goal

pub clean_rows-requires : goal.clean_rows-requires
unfolding blank zeros
clean_rows-requires c = let s : List ℕ = c.args.bytes.now in
    let cells : Tables = record { nodes = record { time = c.read-answer.new.time; birth = c.read-answer.new.birth; population = c.read-answer.new.population }; edges = record { left = c.read-answer.new.left; right = c.read-answer.new.right; parent = c.read-answer.new.parent; child = c.read-answer.new.child }; sites = record { position = c.read-answer.new.position; ancestral = c.read-answer.new.ancestral }; muts = record { site = c.read-answer.new.site; node = c.read-answer.new.node; derived = c.read-answer.new.derived } } in
    let samples : List ℕ = c.read-answer.new.samples in
    let L : ℕ = c.in-Ok.contents.len in
    let r : Rows = c.in-Ok.contents.rows in
    let n : Counts = record { nodes = r.nodes; edges = r.edges; sites = r.sites; mutations = r.mutations } in
    let e : record { answer = done; len = L; rows = n; listed = r.samples; cells = cells; samples = samples } ≡ reading 2 stored_limits s blank (zeros stored_limits.samples) = ap (λ (a : Result Contents Refusal). read_of a cells samples) (sym c.in-Ok.is) ∙ c.read-answer.ensures in
    let f : Long n cells × (r.samples ≤ length samples) = read_long s blank (zeros stored_limits.samples) L n r.samples cells samples e in
    (f.0, f.1, c.requires)

pub returns-in-Ok : goal.returns-in-Ok
unfolding blank zeros
returns-in-Ok c = let s : List ℕ = c.args.bytes.now in
    let cells : Tables = record { nodes = record { time = c.read-answer.new.time; birth = c.read-answer.new.birth; population = c.read-answer.new.population }; edges = record { left = c.read-answer.new.left; right = c.read-answer.new.right; parent = c.read-answer.new.parent; child = c.read-answer.new.child }; sites = record { position = c.read-answer.new.position; ancestral = c.read-answer.new.ancestral }; muts = record { site = c.read-answer.new.site; node = c.read-answer.new.node; derived = c.read-answer.new.derived } } in
    let samples : List ℕ = c.read-answer.new.samples in
    let L : ℕ = c.in-Ok.contents.len in
    let r : Rows = c.in-Ok.contents.rows in
    let n : Counts = record { nodes = r.nodes; edges = r.edges; sites = r.sites; mutations = r.mutations } in
    printed_as (read_listed s L n r.samples cells samples (ap (λ (a : Result Contents Refusal). read_of a cells samples) (sym c.in-Ok.is) ∙ c.read-answer.ensures)) c.clean_rows.ensures

pub returns-in-Err : goal.returns-in-Err
unfolding blank zeros
returns-in-Err c = let s : List ℕ = c.args.bytes.now in
    let cells : Tables = record { nodes = record { time = c.read-answer.new.time; birth = c.read-answer.new.birth; population = c.read-answer.new.population }; edges = record { left = c.read-answer.new.left; right = c.read-answer.new.right; parent = c.read-answer.new.parent; child = c.read-answer.new.child }; sites = record { position = c.read-answer.new.position; ancestral = c.read-answer.new.ancestral }; muts = record { site = c.read-answer.new.site; node = c.read-answer.new.node; derived = c.read-answer.new.derived } } in
    let samples : List ℕ = c.read-answer.new.samples in
    printed_as (read_refused s 0 (record { nodes = 0; edges = 0; sites = 0; mutations = 0 }) 0 cells samples c.in-Err.x (ap (λ (a : Result Contents Refusal). read_of a cells samples) (sym c.in-Err.is) ∙ c.read-answer.ensures)) c.refused.ensures
