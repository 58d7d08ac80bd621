use Rattle.statement.proofs.Faults.{tells_first, one_fault}
use Rattle.statement.proofs.PagesHold.{reads_pages, one_text}
use Rattle.statement.proofs.read.read.Goals as goal

pub returns-then-amounts-lt-PAGE-clause-pages : goal.returns-then-amounts-lt-PAGE-clause-pages
returns-then-amounts-lt-PAGE-clause-pages c = reads_pages

pub returns-then-amounts-lt-PAGE-clause-one_text : goal.returns-then-amounts-lt-PAGE-clause-one_text
returns-then-amounts-lt-PAGE-clause-one_text c = one_text

pub returns-in_err-page-clause-pages : goal.returns-in_err-page-clause-pages
returns-in_err-page-clause-pages c = reads_pages

pub returns-in_err-page-clause-one_text : goal.returns-in_err-page-clause-one_text
returns-in_err-page-clause-one_text c = one_text

pub returns-clause-pages : goal.returns-clause-pages
returns-clause-pages c = reads_pages

pub returns-clause-one_text : goal.returns-clause-one_text
returns-clause-one_text c = one_text

pub returns-then-amounts-lt-PAGE-clause-faulty : goal.returns-then-amounts-lt-PAGE-clause-faulty
returns-then-amounts-lt-PAGE-clause-faulty c = tells_first

pub returns-then-amounts-lt-PAGE-clause-one_fault : goal.returns-then-amounts-lt-PAGE-clause-one_fault
returns-then-amounts-lt-PAGE-clause-one_fault c = one_fault

pub returns-in_err-page-clause-faulty : goal.returns-in_err-page-clause-faulty
returns-in_err-page-clause-faulty c = tells_first

pub returns-in_err-page-clause-one_fault : goal.returns-in_err-page-clause-one_fault
returns-in_err-page-clause-one_fault c = one_fault

pub returns-clause-faulty : goal.returns-clause-faulty
returns-clause-faulty c = tells_first

pub returns-clause-one_fault : goal.returns-clause-one_fault
returns-clause-one_fault c = one_fault
