mod Numbers
mod WordLaws
