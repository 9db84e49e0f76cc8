-- Each refusal is decided by the test that led to it, after the tests that passed before.
use borrow.Author.Tests.{le-leb, lt-leb}
use Rattle.rules.specs.Answers.{require, ◌then◌}
use Rattle.rules.specs.Calls.{counts_check, size_check}
use Rattle.nodes.proofs.Nodes.sizes.Goals as goal

pub returns-then-self-gt8192 : goal.returns-then-self-gt8192
unfolding size_check counts_check require ◌then◌
returns-then-self-gt8192 c = simp (lt-leb _ 8_192 c.if-self-gt8192.true)

pub returns-then-self-gt8193 : goal.returns-then-self-gt8193
unfolding size_check counts_check require ◌then◌
returns-then-self-gt8193 c = simp (le-leb _ 8_192 c.if-self-gt8192.false, lt-leb _ 8_193 c.if-self-gt8193.true)

pub returns-then-self-gt8193-2 : goal.returns-then-self-gt8193-2
unfolding size_check counts_check require ◌then◌
returns-then-self-gt8193-2 c =
    simp (le-leb _ 8_192 c.if-self-gt8192.false, le-leb _ 8_193 c.if-self-gt8193.false, lt-leb _ 8_193 c.if-self-gt8193-2.true)

pub returns : goal.returns
unfolding size_check counts_check require ◌then◌
returns c = simp (le-leb _ 8_192 c.if-self-gt8192.false, le-leb _ 8_193 c.if-self-gt8193.false, le-leb _ 8_193 c.if-self-gt8193-2.false)
