mod Never
mod Standing
